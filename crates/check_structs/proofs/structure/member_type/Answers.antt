use Rattle.std.proofs.Common.{ap, sym, ◌∙◌}
use Rattle.cyc_tree.specs.View.{type_tree}
use Rattle.cyc_types.proofs.WrittenTags.{member_declared}
use Rattle.cyc_types.specs.Tables.{tables_of}
use Rattle.check_faults.specs.Verdicts.{shortened}
use Rattle.check_structs.specs.Members.{scoped}
use Rattle.check_structs.proofs.structure.member_type.Goals as goal

pub returns : goal.returns
returns c g i stands =
    c.in_ok-found.ensures g (c.known_tag-tag.ensures g stands.names)
    ∙ ap (λ v. shortened v) (sym (member_declared (scoped g i c.args.names.now) (tables_of c.args.known.tables.now) c.args.is_union
    (type_tree c.args.of.now) stands.earlier))
