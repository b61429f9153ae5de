use Rattle.std.proofs.Common.{◌≡◌, ◌∙◌, ℕ, [], ap, subst, sym, Some, None}
use Rattle.std.specs.Prelude.{Option, option_map}
use Rattle.cyc_tree.specs.Tree as tree
use Rattle.source_meaning.specs.Programs.{structs_from, unions_of}
use Rattle.lower_checks.specs.Structs.{Knows, bytes_and}
use Rattle.lower_checks.specs.Unions.{first_union, union_tree}
use Rattle.lower_checks.specs.declared.unions.Union as code
use Rattle.lower_checks.proofs.UnionCells.{no_union, union_bytes}
use Rattle.lower_checks.proofs.table.Table.union_room.Goals as goal

pub returns-in-Some : goal.returns-in-Some
returns-in-Some c =
    let us = unions_of c.args.self.now in
    let tag = c.args.tag.now in
    let u = union_tree c.in-Some.known in
    let knows = subst (λ (t : tree.Program). Knows c.self.inside.structs (unions_of t) (structs_from t [])) c.self.view_is c.self.invariant.structs_are in
    let found : first_union us tag ≡ Some u =
    sym (knows.unions_are.first tag) ∙ sym c.union_of.ensures ∙ ap (λ (o : Option code.Union). option_map union_tree o) c.in-Some.is in
    ap (λ (n : ℕ). bytes_and n 4) (c.bytes-size.ensures ∙ sym (union_bytes us tag u knows.unions_are.laid found))

pub returns-in-None : goal.returns-in-None
returns-in-None c =
    let us = unions_of c.args.self.now in
    let tag = c.args.tag.now in
    let knows = subst (λ (t : tree.Program). Knows c.self.inside.structs (unions_of t) (structs_from t [])) c.self.view_is c.self.invariant.structs_are in
    let none : first_union us tag ≡ None =
    sym (knows.unions_are.first tag) ∙ sym c.union_of.ensures ∙ ap (λ (o : Option code.Union). option_map union_tree o) c.in-None.is in
    ap (λ (n : ℕ). bytes_and n 4) (sym (no_union us tag knows.unions_are.laid none))
