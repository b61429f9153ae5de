use Rattle.std.proofs.Common.{◌≡◌, ◌∙◌, ◌+◌, IfOk, inl, inr, sym, ap, ap₂, subst, false, ◌∷◌, map, drop}
use Rattle.std.proofs.lemmas.List.{drop_all, drop_more}
use Rattle.std.specs.declared.alloc.AllocError.{AllocError}
use Rattle.std.specs.declared.result.Result.{Result}
use Rattle.cyc_tree.proofs.Forms.{
  all_of_tree,
  any_of_tree,
  assign_tree,
  call_tree,
  chain_tree,
  character_tree,
  grouped_tree,
  heap_region_tree,
  link_parts,
  make_union_tree,
  new_tree,
  new_in_tree,
  null_tree,
  num_elts_tree,
  number_tree,
  prefixed_tree,
  suffixed_tree,
  text_tree,
  unique_region_tree,
  variable_tree,
}
use Rattle.cyc_tree.proofs.PartForms.{array_tree, one_tree}
use Rattle.cyc_tree.specs.Tree.{Expression, MoreLinks}
use Rattle.cyc_tree.specs.View.{expression_tree, link_tree, links_of, made_tree, suffix_tree, suffixes_of}
use Rattle.source_meaning.specs.Expressions.{is_unique_region}
use Rattle.source_meaning.specs.Operators.{operator_shape}
use Rattle.source_meaning.specs.Shapes.{Shape, FatShape, NeverNull, ThinShape, UnionShape}
use Rattle.source_lowering.specs.Lowered.{
  call_shape,
  element_names,
  linked_shape,
  named_shape,
  new_shape,
  owner_in,
  prefix_shape,
  static_shape,
  suffixed_shape,
  valued,
}
use Rattle.lower_checks.specs.Scoped.{names_in, world_in}
use Rattle.lower_checks.specs.Views.{owner_tree, shape_tree}
use Rattle.lower_checks.specs.declared.shape.Shape as code
use Rattle.lower_checks.proofs.shaped.+shape.Goals as goal

-- the same shape, by another name
shaped_as : (r : Result code.Shape AllocError) (s t : Shape) → IfOk r (λ x. shape_tree x ≡ s) → s ≡ t → IfOk r (λ x. shape_tree x ≡ t)
shaped_as r s t shaped is = subst (λ (u : Shape). IfOk r (λ x. shape_tree x ≡ u)) is shaped

pub shape_of-returns-in-Number : goal.shape_of-returns-in-Number
shape_of-returns-in-Number t c = record {
  shape =
      let w = world_in c.args.scope.now in
      let n = names_in c.args.scope.now in
      c.number_shape.ensures
      ∙ ap (static_shape w n) (sym (ap expression_tree c.in-Number.is ∙ number_tree c.in-Number.field-0 c.in-Number.value c.in-Number.suffix));
}

pub shape_of-returns-in-Character : goal.shape_of-returns-in-Character
shape_of-returns-in-Character t c = record {
  shape =
      let w = world_in c.args.scope.now in
      let n = names_in c.args.scope.now in
      ap (static_shape w n) (sym (ap expression_tree c.in-Character.is ∙ character_tree c.in-Character.field-0 c.in-Character.field-1));
}

pub shape_of-returns-in-Null : goal.shape_of-returns-in-Null
shape_of-returns-in-Null t c = record {
  shape =
      let w = world_in c.args.scope.now in
      let n = names_in c.args.scope.now in
      c.null.ensures ∙ ap (static_shape w n) (sym (ap expression_tree c.in-Null.is ∙ null_tree c.in-Null.field-0));
}

pub shape_of-returns-in-HeapRegion : goal.shape_of-returns-in-HeapRegion
shape_of-returns-in-HeapRegion t c = record {
  shape =
      let w = world_in c.args.scope.now in
      let n = names_in c.args.scope.now in
      ap (static_shape w n) (sym (ap expression_tree c.in-HeapRegion.is ∙ heap_region_tree c.in-HeapRegion.field-0));
}

pub shape_of-returns-in-NumElts : goal.shape_of-returns-in-NumElts
shape_of-returns-in-NumElts t c = record {
  shape =
      let w = world_in c.args.scope.now in
      let n = names_in c.args.scope.now in
      ap (static_shape w n) (sym (ap expression_tree c.in-NumElts.is ∙ num_elts_tree c.in-NumElts.field-0 c.in-NumElts.field-1));
}

pub shape_of-returns-in-Text : goal.shape_of-returns-in-Text
shape_of-returns-in-Text t c = record {
  shape =
      let w = world_in c.args.scope.now in
      let n = names_in c.args.scope.now in
      c.text.ensures ∙ ap (static_shape w n) (sym (ap expression_tree c.in-Text.is ∙ text_tree c.in-Text.field-0 c.in-Text.field-1));
}

pub shape_of-returns-in-UniqueRegion : goal.shape_of-returns-in-UniqueRegion
shape_of-returns-in-UniqueRegion t c = record {
  shape =
      let w = world_in c.args.scope.now in
      let n = names_in c.args.scope.now in
      ap (static_shape w n) (sym (ap expression_tree c.in-UniqueRegion.is ∙ unique_region_tree c.in-UniqueRegion.field-0));
}

pub shape_of-returns-in-Variable : goal.shape_of-returns-in-Variable
shape_of-returns-in-Variable t c = record {
  shape =
      let w = world_in c.args.scope.now in
      let n = names_in c.args.scope.now in
      c.named_shape.ensures ∙ ap (λ xs. valued (named_shape w n xs)) c.deref.ensures.value
      ∙ ap (static_shape w n) (sym (ap expression_tree c.in-Variable.is ∙ variable_tree c.in-Variable.name));
}

pub shape_of-returns-in-Call : goal.shape_of-returns-in-Call
shape_of-returns-in-Call t c = record {
  shape =
      let w = world_in c.args.scope.now in
      let n = names_in c.args.scope.now in
      c.call_shape.ensures ∙ ap (λ xs. call_shape w xs) c.deref-in-Call.ensures.value
      ∙ ap (static_shape w n) (sym (ap expression_tree c.in-Call.is ∙ call_tree c.in-Call.name c.in-Call.field-1));
}

pub shape_of-returns-in-MakeUnion : goal.shape_of-returns-in-MakeUnion
shape_of-returns-in-MakeUnion t c = record {
  shape =
      let w = world_in c.args.scope.now in
      let n = names_in c.args.scope.now in
      ap UnionShape c.deref-in-MakeUnion.ensures.value
      ∙ ap (static_shape w n) (sym (ap expression_tree c.in-MakeUnion.is ∙ make_union_tree c.in-MakeUnion.tag c.in-MakeUnion.field-1 c.in-MakeUnion.field-2));
}

pub shape_of-returns-in-AllOf : goal.shape_of-returns-in-AllOf
shape_of-returns-in-AllOf t c = record {
  shape =
      let w = world_in c.args.scope.now in
      let n = names_in c.args.scope.now in
      elim c.in-AllOf.is [
        | inl x ↦ ap (static_shape w n) (sym (ap expression_tree x.2 ∙ all_of_tree x.0 x.1))
        | inr x ↦ ap (static_shape w n) (sym (ap expression_tree x.2 ∙ any_of_tree x.0 x.1))
      ];
}

pub shape_of-returns-in-Grouped : goal.shape_of-returns-in-Grouped
shape_of-returns-in-Grouped t c = record {
  shape =
      let w = world_in c.args.scope.now in
      let n = names_in c.args.scope.now in
      let s = static_shape w n (expression_tree c.args.expression.now) in
      shaped_as c.shape_of.result (static_shape w n (expression_tree c.deref-in-Grouped.result.now)) s
      c.shape_of.ensures.shape
      (ap (λ e. static_shape w n (expression_tree e)) c.deref-in-Grouped.ensures
      ∙ ap (static_shape w n) (sym (ap expression_tree c.in-Grouped.is ∙ grouped_tree c.in-Grouped.field-0 c.in-Grouped.inner)));
}

pub shape_of-returns-in-Assign : goal.shape_of-returns-in-Assign
shape_of-returns-in-Assign t c = record {
  shape =
      let w = world_in c.args.scope.now in
      let n = names_in c.args.scope.now in
      let s = static_shape w n (expression_tree c.args.expression.now) in
      shaped_as c.shape_of-in-Assign.result (static_shape w n (expression_tree c.deref-in-Assign.result.now)) s
      c.shape_of-in-Assign.ensures.shape
      (ap (λ e. static_shape w n (expression_tree e)) c.deref-in-Assign.ensures
      ∙ ap (static_shape w n) (sym (ap expression_tree c.in-Assign.is ∙ assign_tree c.in-Assign.place c.in-Assign.field-1)));
}

pub shape_of-returns-in_ok-left-in-Suffixed : goal.shape_of-returns-in_ok-left-in-Suffixed
shape_of-returns-in_ok-left-in-Suffixed t c = record {
  shape =
      let w = world_in c.args.scope.now in
      let n = names_in c.args.scope.now in
      c.suffixed_shape.ensures
      ∙ ap₂ (λ xs left. suffixed_shape w (suffixes_of (map suffix_tree xs)) left) c.deref-in-Suffixed-2.ensures.value
      (c.in_ok-left-in-Suffixed.ensures.shape ∙ ap (λ e. static_shape w n (expression_tree e)) c.deref-in-Suffixed.ensures)
      ∙ ap (static_shape w n) (sym (ap expression_tree c.in-Suffixed.is ∙ suffixed_tree c.in-Suffixed.primary c.in-Suffixed.suffixes));
}

pub shape_of-returns-in_ok-shape_of-in-Prefixed : goal.shape_of-returns-in_ok-shape_of-in-Prefixed
shape_of-returns-in_ok-shape_of-in-Prefixed t c = record {
  shape =
      let w = world_in c.args.scope.now in
      let n = names_in c.args.scope.now in
      let s = static_shape w n (expression_tree c.args.expression.now) in
      let x = c.in-Prefixed in
      shaped_as c.prefix_shape.result (prefix_shape x.operator (shape_tree c.in_ok-shape_of-in-Prefixed.field-0)) s
      c.prefix_shape.ensures.shape
      (ap (prefix_shape x.operator) (c.in_ok-shape_of-in-Prefixed.ensures.shape ∙ ap (λ e. static_shape w n (expression_tree e)) c.deref-in-Prefixed.ensures)
      ∙ ap (static_shape w n) (sym (ap expression_tree x.is ∙ prefixed_tree x.field-0 x.operator x.operand)));
}

pub shape_of-returns-in-New : goal.shape_of-returns-in-New
shape_of-returns-in-New t c = record {
  shape =
      let w = world_in c.args.scope.now in
      let n = names_in c.args.scope.now in
      let s = static_shape w n (expression_tree c.args.expression.now) in
      shaped_as c.new_shape.result (static_shape w n (Expression.New c.in-New.field-0 (made_tree c.in-New.made))) s c.new_shape.ensures.shape
      (ap (static_shape w n) (sym (ap expression_tree c.in-New.is ∙ new_tree c.in-New.field-0 c.in-New.made)));
}

pub shape_of-returns-in-NewIn : goal.shape_of-returns-in-NewIn
shape_of-returns-in-NewIn t c = record {
  shape =
      let w = world_in c.args.scope.now in
      let n = names_in c.args.scope.now in
      let s = static_shape w n (expression_tree c.args.expression.now) in
      let x = c.in-NewIn in
      shaped_as c.new_shape-in-NewIn.result (new_shape w n (owner_tree c.owner_for.result) (made_tree x.made)) s
      c.new_shape-in-NewIn.ensures.shape
      (ap (λ o. new_shape w n o (made_tree x.made))
      (c.owner_for.ensures ∙ ap (λ e. owner_in (is_unique_region (expression_tree e))) c.deref-in-NewIn.ensures)
      ∙ ap (static_shape w n) (sym (ap expression_tree x.is ∙ new_in_tree x.field-0 x.handle x.made)));
}

pub shape_of-returns-in_ok-left-in-Chain : goal.shape_of-returns-in_ok-left-in-Chain
shape_of-returns-in_ok-left-in-Chain t c = record {
  shape =
      let w = world_in c.args.scope.now in
      let n = names_in c.args.scope.now in
      let s = static_shape w n (expression_tree c.args.expression.now) in
      let left = c.in_ok-left-in-Chain.left in
      shaped_as c.linked_shape.result (linked_shape w n (links_of (map link_tree c.deref-in-Chain-2.result.now)) (shape_tree left)) s
      c.linked_shape.ensures.shape
      (ap₂ (λ xs first. linked_shape w n (links_of (map link_tree xs)) first) c.deref-in-Chain-2.ensures.value
      (c.in_ok-left-in-Chain.ensures.shape ∙ ap (λ e. static_shape w n (expression_tree e)) c.deref-in-Chain.ensures)
      ∙ ap (static_shape w n) (sym (ap expression_tree c.in-Chain.is ∙ chain_tree c.in-Chain.first c.in-Chain.links)));
}

pub linked_shape-each-preserved : goal.linked_shape-each-preserved
linked_shape-each-preserved t c =
    let w = world_in c.args.scope.now in
    let n = names_in c.args.scope.now in
    let links = c.args.links.now in
    let k = c.each.link-index in
    let link = c.link-item.result in
    let left = shape_tree c.each.left in
    let others = links_of (map link_tree (drop (k + 1) links)) in
    let is : links_of (map link_tree (drop k links)) ≡ MoreLinks link.operator (expression_tree link.operand) others =
    ap (λ xs. links_of (map link_tree xs)) (drop_more links k link c.each-test.true ∙ ap (λ x. x ∷ drop (k + 1) links) (sym c.link-item.is))
    ∙ ap (λ x. links_of (x ∷ map link_tree (drop (k + 1) links))) (link_parts link) in
    ap (linked_shape w n others)
    (c.operator_shape-left.ensures ∙ ap (operator_shape link.operator left) c.in_ok-right.ensures.shape)
    ∙ sym (ap (λ xs. linked_shape w n xs left) is) ∙ c.each.invariant

pub linked_shape-returns : goal.linked_shape-returns
linked_shape-returns t c = record {
  shape =
      let w = world_in c.args.scope.now in
      let n = names_in c.args.scope.now in
      ap (λ xs. linked_shape w n (links_of (map link_tree xs)) (shape_tree c.each.left))
      (sym (drop_all c.each.link-index c.args.links.now c.each-test.false)) ∙ c.each.invariant;
}

pub new_shape-returns-in_ok-shape_of-in-One : goal.new_shape-returns-in_ok-shape_of-in-One
new_shape-returns-in_ok-shape_of-in-One t c = record {
  shape =
      let w = world_in c.args.scope.now in
      let n = names_in c.args.scope.now in
      let o = owner_tree c.args.owner in
      shaped_as c.address.result (ThinShape (NeverNull 1) o (shape_tree c.in_ok-shape_of-in-One.field-0)) (new_shape w n o (made_tree c.args.made.now))
      c.address.ensures.address
      (ap (ThinShape (NeverNull 1) o) (c.in_ok-shape_of-in-One.ensures.shape ∙ ap (λ e. static_shape w n (expression_tree e)) c.deref.ensures)
      ∙ ap (new_shape w n o) (sym (ap made_tree c.in-One.is ∙ one_tree c.in-One.value)));
}

pub new_shape-returns-in-Array : goal.new_shape-returns-in-Array
new_shape-returns-in-Array t c = record {
  shape =
      let w = world_in c.args.scope.now in
      let n = names_in c.args.scope.now in
      let o = owner_tree c.args.owner in
      let x = c.in-Array in
      let inner = element_names x.index.text.items n in
      shaped_as c.elements_shape.result (FatShape (static_shape w inner (expression_tree c.deref-in-Array.result.now)))
      (new_shape w n o (made_tree c.args.made.now)) c.elements_shape.ensures.shape
      (ap (λ e. FatShape (static_shape w inner (expression_tree e))) c.deref-in-Array.ensures
      ∙ ap (new_shape w n o) (sym (ap made_tree x.is ∙ array_tree x.index x.field-1 x.element)));
}
