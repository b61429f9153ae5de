use Rattle.std.proofs.Common.{◌≡◌, ◌∙◌, ◌+◌, [], ◌∷◌, List, ap, subst, sym, arith, drop, refl}
use Rattle.std.proofs.lemmas.Grind.{common_steps}
use Rattle.std.proofs.lemmas.List.{drop_more}
use Rattle.cyc_tree.specs.Tree as tree
use Rattle.cyc_tree.specs.View.{program_item_tree, program_tree, structure_tree}
use Rattle.cyc_tree.specs.declared.item.Item.{Item}
use Rattle.source_meaning.specs.Programs.{layout_of, structs_from, unions_of}
use Rattle.source_meaning.specs.Shapes.{Layout}
use Rattle.source_lowering.specs.Lowerable.{AreStructs}
use Rattle.lower_checks.specs.Structs.{Knows}
use Rattle.lower_checks.specs.declared.layouts.Structs.{Structs}
use Rattle.lower_checks.proofs.Structs.{earlier_are, knows_none, next_struct}
use Rattle.lower_checks.proofs.table.all_structs.Goals as goal
use Rattle.lower_checks.proofs.table.all_structs.Goals.{in-Struct+in_ok-add, in_default}

pub each-init : goal.each-init
each-init c = record {
  found = [];
  knows = knows_none c.new-structs.result _ (unions_of (program_tree c.args.items.now)) c.new-structs.ensures.unions c.in_ok-first_unions.ensures.first
      c.in_ok-first_unions.ensures.laid c.new-structs.ensures.none;
  all_are = refl;
}

-- the next item is a struct, which is in front of those before it, or something else
pub each-preserved : goal.each-preserved
each-preserved c =
    let items = c.args.items.now in
    let k = c.each.item-index in
    let item = c.item-item.result in
    let found = c.each.invariant.found in
    let us = unions_of (program_tree items) in
    let all = structs_from (program_tree items) [] in
    let rest = program_tree (drop (k + 1) items) in
    let next : drop k items ≡ item ∷ drop (k + 1) items =
    drop_more items k item c.each-test.true ∙ ap (λ (i : Item). i ∷ drop (k + 1) items) (sym c.item-item.is) in
    let here : structs_from (program_item_tree item ∷ rest) found ≡ all =
    ap (λ (is : List Item). structs_from (program_tree is) found) (sym next) ∙ c.each.invariant.all_are in
    elim c.match-item.branch [
      | in-Struct+in_ok-add w ↦
          let l = layout_of (structure_tree w.in-Struct.structure) in
          record {
            found = l ∷ found;
            knows = subst (λ (t : Structs). Knows t us (l ∷ found)) (sym w.structs-is) (w.in_ok-add.ensures.added us found c.each.invariant.knows);
            all_are = subst (λ (i : Item). structs_from (program_item_tree i ∷ rest) found ≡ all) w.in-Struct.is here;
          }
      | in_default w ↦ record {
        found = found;
        knows = subst (λ (t : Structs). Knows t us found) (sym w.structs-is) c.each.invariant.knows;
        all_are = grind (arith, common_steps, here);
      }
    ]

-- the struct comes behind those that are found
pub add-requires : goal.add-requires
add-requires c =
    let p = program_tree c.args.items.now in
    let s = structure_tree c.in-Struct.structure in
    let found = c.each.invariant.found in
    let rest = program_tree (drop (c.each.item-index + 1) c.args.items.now) in
    let all : structs_from (tree.StructItem s ∷ rest) found ≡ structs_from p [] = grind (arith, common_steps, c.each.invariant.all_are) in
    record {
      next = record {
        unions = unions_of p;
        structs = found;
        knows = c.each.invariant.knows;
        values = c.requires.unions;
        earlier =
            (earlier_are (unions_of p) rest (layout_of s ∷ found) (subst (λ (ls : List Layout). AreStructs (unions_of p) ls) (sym all) c.requires.structs)).1;
        next = next_struct (unions_of p) rest found (structs_from p []) s all c.requires.structs;
      };
    }
