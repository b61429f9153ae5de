-- What is written of an array that is made: its count first, and then what makes its elements.
use Rattle.std.proofs.Common.{◌≡◌, ◌∙◌, ℕ, ◌+◌, refl, sym, ap, subst, Bool, List, ◌∷◌, ◌++◌, length}
use Rattle.std.specs.declared.boxed.Box.{Box}
use Rattle.std.specs.declared.alloc.Global.{Global}
use Rattle.cyc_tree.specs.Tree as tree
use Rattle.cyc_tree.specs.Tree.{Expression, Made}
use Rattle.cyc_tree.specs.View.{OneSuffix, expression_step, expression_tree, link_step, made_step, made_tree, name_tree, suffix_step}
use Rattle.cyc_tree.specs.declared.expression.Expression as code
use Rattle.cyc_tree.specs.declared.expression.Expression.TheFolds.{fold-roll-Made}
use Rattle.cyc_tree.specs.declared.expression.Expression.TheOpen.{Made-F}
use Rattle.cyc_tree.specs.declared.expression.Made.TheVariants as form
use Rattle.cyc_tree.specs.declared.expression.Operator.{Operator}
use Rattle.cyc_tree.specs.declared.name.Name.{Name}
use Rattle.core_meaning.specs.Core.{Statement}
use Rattle.source_meaning.specs.Shapes.{Shape}
use Rattle.source_meaning.specs.Steps.{World}
use Rattle.source_lowering.specs.Lowered.{
  Named,
  array_code,
  element_by,
  element_names,
  expression_code,
  expression_values,
  new_code,
  new_values,
  static_shape,
  values_by,
  whole_code,
  whole_values,
}
use Rattle.source_lowering.specs.Lowerable.{IsObject, Takes, TakesMember, TakesWhole}
use Rattle.lower_checks.specs.Writing.{IsWritten, next_of}
use Rattle.lower_checks.specs.declared.body.Body.{Body}
use Rattle.lower_checks.proofs.Writing.{next_is, write_write}

-- the elements, by the names that are visible where one is made
abbrev pub made_code : World → List Named → Expression → (d own : ℕ) → List Statement
made_code w names e d own =
    array_code w (static_shape w names e) d
    (element_by w (static_shape w names e) d (whole_code w names e (d + 3) own) (expression_code w names e (d + 3) own))

abbrev pub made_shapes : World → List Named → Expression → List Shape
made_shapes w names e = values_by (static_shape w names e) (whole_values w names e) (expression_values w names e)

-- what is asked of an element
abbrev pub TakesElement : World → List Named → Expression → Type 0
TakesElement w names e = IsObject w.unions w.structs (static_shape w names e) × TakesMember (static_shape w names e) (TakesWhole w names e) (Takes w names e)

pub array_tree : (index : Name) (count element : Box code.Expression Global)
    → made_tree (form.Array index count element) ≡ Made.Array (name_tree index) (expression_tree count.value) (expression_tree element.value)
array_tree index count element =
    ap made_tree (sym (form.rolls-Array index count element))
    ∙ fold-roll-Made Expression Made OneSuffix (Operator × Expression) expression_step made_step suffix_step link_step (Made-F.Array index count element)

module _ (w : World) (names : List Named) (m : Made) (index : tree.Name) (from count of element : Expression) where
  pub array_is : m ≡ Made.Array index from of → count ≡ from → element ≡ of → m ≡ Made.Array index count element
  array_is m_is count_is element_is = m_is ∙ ap (λ x. Made.Array index x of) (sym count_is) ∙ ap (λ x. Made.Array index count x) (sym element_is)

  pub array_written : (unique : Bool) (a b z : Body) (d : ℕ) → m ≡ Made.Array index from of → count ≡ from → element ≡ of
      → IsWritten a b (expression_code w names count (d + 1) (next_of a)) (expression_values w names count)
      → IsWritten b z (made_code w (element_names index.text names) element d (next_of b)) (made_shapes w (element_names index.text names) element)
      → IsWritten a z (new_code w names unique m d (next_of a)) (new_values w names m)
  array_written unique a b z d m_is count_is element_is one two =
      let own = next_of a in
      let inner = element_names index.text names in
      let first = expression_code w names count (d + 1) own in
      let values = expression_values w names count in
      let second : ℕ → List Statement = made_code w inner element d in
      let number = own + length values in
      subst (λ x. IsWritten a z (new_code w names unique x d own) (new_values w names x)) (sym (array_is m_is count_is element_is))
      (write_write a b z first (second (next_of b)) (first ++ second number) values (made_shapes w inner element)
      (values ++ made_shapes w inner element) one two (ap (λ n. first ++ second n) (sym (next_is a b first values one))) refl)
