use Rattle.std.proofs.Common.{ap, subst, sym, ◌∙◌}
use Rattle.cyc_tree.specs.View.{type_tree}
use Rattle.cyc_types.specs.Types.{static_type}
use Rattle.check_faults.specs.Verdicts.{short_of}
use Rattle.check_structs.proofs.HeadTypes.{HeadAs, clean_short, head_as}
use Rattle.check_structs.proofs.heads.is_head_clean.Goals as goal

pub returns-in-Of : goal.returns-in-Of
returns-in-Of c g i heads =
    let t = type_tree c.args.of.now in
    let found = subst (λ n. HeadAs c.args.is_union g i c.args.names.now t n) (sym c.in_ok-asked.ensures)
    (head_as c.args.is_union g i c.args.names.now t c.head_tag-tag.result (c.head_tag-tag.ensures g heads))
    in
    c.fits_member.ensures
    ∙ sym (ap (λ v. clean_short c.args.is_union (short_of static_type v)) c.in-Of.is)
    ∙ ap (λ s. clean_short c.args.is_union s) (c.in_ok-of.ensures found.by found.tag)
    ∙ sym found.is

pub returns-in-Wrong : goal.returns-in-Wrong
returns-in-Wrong c g i heads =
    let t = type_tree c.args.of.now in
    let found = subst (λ n. HeadAs c.args.is_union g i c.args.names.now t n) (sym c.in_ok-asked.ensures)
    (head_as c.args.is_union g i c.args.names.now t c.head_tag-tag.result (c.head_tag-tag.ensures g heads))
    in
    sym (ap (λ v. clean_short c.args.is_union (short_of static_type v)) c.in-Wrong.is)
    ∙ ap (λ s. clean_short c.args.is_union s) (c.in_ok-of.ensures found.by found.tag)
    ∙ sym found.is

pub returns-in-NotJudged : goal.returns-in-NotJudged
returns-in-NotJudged c g i heads =
    let t = type_tree c.args.of.now in
    let found = subst (λ n. HeadAs c.args.is_union g i c.args.names.now t n) (sym c.in_ok-asked.ensures)
    (head_as c.args.is_union g i c.args.names.now t c.head_tag-tag.result (c.head_tag-tag.ensures g heads))
    in
    sym (ap (λ v. clean_short c.args.is_union (short_of static_type v)) c.in-NotJudged.is)
    ∙ ap (λ s. clean_short c.args.is_union s) (c.in_ok-of.ensures found.by found.tag)
    ∙ sym found.is
