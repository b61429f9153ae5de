use Rattle.std.proofs.Common.{◌*◌, ℕ, List, [], ◌∷◌, ◌++◌, sym, ap, ◌∙◌, subst, arith}
use Rattle.cyc_core.specs.declared.layout.Layout.{Layout}
use Rattle.cyc_core.specs.Trees.{datum_tree}
use Rattle.core_lines.specs.Statics.{zeros, datum_bytes}
use Rattle.rv32_layout.specs.Chars.{AreChars}
use Rattle.rv32_layout.specs.Sizes.{cells_size, datum_size}
use Rattle.rv32_layout.proofs.Strings.{text_bytes}
use Rattle.rv32_layout.proofs.Statics.{whole_zeros}
use Rattle.rv32_layout.proofs.globals.put_datum.Goals as goal

pub put_whole-requires : goal.put_whole-requires
put_whole-requires c =
    let same = ap (λ (l : Layout). c.in-Whole.count * cells_size l.cells.items) c.as_ref.ensures in
    let size = ap datum_size c.in-Whole.is in
    omega (arith, same, size, c.requires)

pub returns-in_ok-put_whole-in-Whole : goal.returns-in_ok-put_whole-in-Whole
returns-in_ok-put_whole-in-Whole c =
    let os = c.args.offsets.now in
    let old = c.args.bytes.now.items in
    let count = c.in-Whole.count in
    let whole = c.in-Whole.layout.value in
    c.in_ok-put_whole-in-Whole.ensures ∙ ap (λ (l : Layout). old ++ zeros (count * cells_size l.cells.items)) c.as_ref.ensures ∙
    ap (λ xs. old ++ xs) (sym (whole_zeros os whole count)) ∙
    ap (λ d. old ++ datum_bytes os (datum_tree d)) (sym c.in-Whole.is)

pub returns-in_ok-put_text-in-Text : goal.returns-in_ok-put_text-in-Text
returns-in_ok-put_text-in-Text c =
    let os = c.args.offsets.now in
    let old = c.args.bytes.now.items in
    let text = c.in-Text.text in
    let chars = subst AreChars c.deref.ensures.value c.in_ok-put_text-in-Text.ensures.chars in
    c.in_ok-put_text-in-Text.ensures.bytes ∙ ap (λ (xs : List ℕ). old ++ (xs ++ 0 ∷ [])) c.deref.ensures.value
    ∙ ap (λ xs. old ++ xs) (sym (text_bytes os text chars)) ∙ ap (λ d. old ++ datum_bytes os (datum_tree d)) (sym c.in-Text.is)
