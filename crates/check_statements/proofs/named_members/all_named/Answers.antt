use Rattle.std.proofs.Common.{ap, false, map, sym, true, ◌∙◌}
use Rattle.cyc_tree.specs.View.{clause_tree, clauses_of}
use Rattle.cyc_types.specs.Tables.{tables_of}
use Rattle.source_typing.specs.Statements.{all_named}
use Rattle.source_typing.specs.Tables.{parts_in}
use Rattle.check_statements.specs.Switching.{times_of}
use Rattle.check_statements.proofs.Clauses.{counted_named}
use Rattle.check_statements.proofs.Repeated.{once_counted}
use Rattle.check_statements.proofs.named_members.all_named.Goals as goal

pub returns-then-has_default : goal.returns-then-has_default
returns-then-has_default c = λ same.
    let times = times_of c.args.times.now in
    let cs = clauses_of (map clause_tree c.args.clauses.now) in
    let ps = parts_in (tables_of c.args.tables.now) c.args.tag.now in
    c.none_repeated.ensures ∙ once_counted times cs ps same ∙ counted_named times cs ps true same ∙ ap (all_named ps cs) (sym c.if-has_default.true)

pub returns-else-has_default : goal.returns-else-has_default
returns-else-has_default c = λ same.
    let times = times_of c.args.times.now in
    let cs = clauses_of (map clause_tree c.args.clauses.now) in
    let ps = parts_in (tables_of c.args.tables.now) c.args.tag.now in
    c.all_once.ensures ∙ counted_named times cs ps false same ∙ ap (all_named ps cs) (sym c.if-has_default.false)
