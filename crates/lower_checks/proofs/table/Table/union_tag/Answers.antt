use Rattle.std.proofs.Common.{◌≡◌, ◌∙◌, [], List, Some, ap, subst, sym}
use Rattle.std.specs.Prelude.{option_map}
use Rattle.cyc_tree.specs.Tree as tree
use Rattle.source_meaning.specs.Shapes.{Part, UnionShape, part_shapes}
use Rattle.source_meaning.specs.Programs.{structs_from, unions_of, world_of}
use Rattle.source_lowering.specs.Lowerable.{AreUnions, AreValues}
use Rattle.lower_checks.specs.Structs.{Knows}
use Rattle.lower_checks.specs.Unions.{first_union, union_tree}
use Rattle.lower_checks.proofs.Clauses.{parts_known, values_known}
use Rattle.lower_checks.proofs.table.Table.union_tag.Goals as goal

pub returns-in-Some-clause-values : goal.returns-in-Some-clause-values
returns-in-Some-clause-values c =
    let p = c.args.self.now in
    let us = unions_of p in
    let tag = c.in-Union.tag.now in
    let u = union_tree c.in-Some.field-0 in
    let knows = subst (λ (t : tree.Program). Knows c.self.inside.structs (unions_of t) (structs_from t [])) c.self.view_is c.self.invariant.structs_are in
    let values = subst (λ (t : tree.Program). AreUnions (unions_of t)) c.self.view_is c.self.invariant.values in
    let found : first_union us tag ≡ Some u =
    sym (knows.unions_are.first tag) ∙ sym c.union_of.ensures ∙ ap (option_map union_tree) c.in-Some.is in
    subst (λ (ps : List Part). AreValues (part_shapes ps)) (parts_known (world_of p) (UnionShape tag) u found) (values_known us (UnionShape tag) u values found)
