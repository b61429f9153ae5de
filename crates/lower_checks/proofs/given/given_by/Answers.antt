use Rattle.std.proofs.Common.{◌≡◌, ◌∙◌, ◌<◌, ◌+◌, ◌-◌, ◌++◌, ◌∷◌, [], ℕ, List, Bool, append_assoc, sym, ap, ap₂, arith, map, length, take, get_or, reverse}
use Rattle.cyc_tree.specs.View.{pointer_tree}
use Rattle.source_meaning.specs.Shapes.{Shape, pointee}
use Rattle.lower_checks.specs.Given.{given_inwards, is_given}
use Rattle.lower_checks.specs.Views.{shape_tree}
use Rattle.lower_checks.proofs.Settling.{one_inwards}
use Rattle.lower_checks.proofs.given.given_by.Goals as goal

pub each-preserved : goal.each-preserved
each-preserved c =
    let all = c.args.pointers.now in
    let around = c.each.around in
    let left = shape_tree c.each.left in
    let p = c.index-pointers-pointers.result in
    let n = length all - (around + 1) in
    let inside : around < length all = c.each-test.true in
    let within : n < length all = omega arith in
    let count : length all - around ≡ n + 1 = omega arith in
    let here : length all - 1 - around ≡ n = omega arith in
    let is : p ≡ get_or all n p = c.index-pointers-pointers.is ∙ ap (λ (k : ℕ). get_or all k p) here in
    let before = c.each.alone.items in
    let digit = is_given (pointer_tree p) left in
    let others = given_inwards (reverse (map pointer_tree (take n all))) in
    let digits : given_inwards (reverse (map pointer_tree (take (length all - around) all))) left ≡ digit ∷ others (pointee left) =
    ap (λ (k : ℕ). given_inwards (reverse (map pointer_tree (take k all))) left) count ∙ one_inwards all n p left within is in
    ap₂ (λ (xs : List Bool) (s : Shape). xs ++ others s)
    (c.in_ok-append.ensures.appended ∙ ap (λ (d : Bool). before ++ d ∷ []) c.is_given-digit.ensures) c.pointee-left.ensures
    ∙ append_assoc before (digit ∷ []) (others (pointee left))
    ∙ ap (λ (xs : List Bool). before ++ xs) (sym digits) ∙ c.each.invariant
