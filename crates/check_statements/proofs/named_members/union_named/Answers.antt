use Rattle.std.proofs.Common.{Option, ap, map, sym, ◌∙◌}
use Rattle.cyc_tree.specs.View.{clause_tree, clauses_of}
use Rattle.source_typing.specs.Statements.{all_named}
use Rattle.source_typing.specs.Tables.{Tag, parts_of_tag}
use Rattle.check_statements.proofs.named_members.union_named.Goals as goal

pub returns : goal.returns
returns c = λ g has.
    let cs = clauses_of (map clause_tree c.args.clauses.now) in
    c.all_named.ensures c.in_ok-times.ensures
    ∙ ap (λ (t : Option Tag). all_named (parts_of_tag t) cs c.args.has_default) (sym (has.tags c.args.union.tag.now))
