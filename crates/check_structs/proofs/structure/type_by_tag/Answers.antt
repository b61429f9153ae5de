use Rattle.std.proofs.Common.{ap, sym, ◌∙◌}
use Rattle.cyc_tree.specs.View.{type_tree}
use Rattle.cyc_types.specs.Known.{has_declared}
use Rattle.cyc_types.specs.Tables.{tables_of}
use Rattle.cyc_types.specs.Types.{static_type}
use Rattle.check_faults.specs.Faults.{fault_of}
use Rattle.check_faults.specs.Verdicts.{Is, NotJudged, Wrong, short_of}
use Rattle.check_structs.proofs.Judging.{type_by}
use Rattle.check_structs.proofs.structure.type_by_tag.Goals as goal

pub returns-in-Of : goal.returns-in-Of
returns-in-Of c g is =
    c.fitting_member.ensures
    ∙ type_by c.args.is_union g c.args.names.now (type_tree c.args.of.now)
    (has_declared (tables_of c.args.tables.now)) (Is (static_type c.in-Of.member))
    (sym (ap (λ v. short_of static_type v) c.in-Of.is) ∙ c.in_ok-found.ensures g is)

pub returns-in-Wrong : goal.returns-in-Wrong
returns-in-Wrong c g is =
    type_by c.args.is_union g c.args.names.now (type_tree c.args.of.now)
    (has_declared (tables_of c.args.tables.now)) (Wrong (fault_of c.in-Wrong.fault))
    (sym (ap (λ v. short_of static_type v) c.in-Wrong.is) ∙ c.in_ok-found.ensures g is)

pub returns-in-NotJudged : goal.returns-in-NotJudged
returns-in-NotJudged c g is =
    type_by c.args.is_union g c.args.names.now (type_tree c.args.of.now) (has_declared (tables_of c.args.tables.now)) NotJudged
    (sym (ap (λ v. short_of static_type v) c.in-NotJudged.is) ∙ c.in_ok-found.ensures g is)
