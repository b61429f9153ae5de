-- Operators between operands.
use Rattle.std.proofs.Common.{◌≡◌, ℕ, Bool, true, false, Option, Some, None, refl, sym, ap, ◌∙◌, arith, true≢false}
use Rattle.std.proofs.lemmas.Bool.Decides.{nat_tests}
use Rattle.std.specs.Prelude.{MatchOption, is_none, nat_le, ◌&&◌, ◌||◌, ◌++◌, ◌+◌, ◌*◌, if◌then◌else◌}
use Rattle.cyc_tree.specs.declared.expression.Operator.{Operator}
use Rattle.source_typing.specs.Faults.{fault, outlives_rule, region_rule, test, type_rule}
use Rattle.source_typing.specs.Operators.{applied_to, compared, compared_thin, fat_moved, if_equality, integers_joined, is_equality, is_move}
use Rattle.source_typing.specs.Regions.{Region}
use Rattle.source_typing.specs.Scope.{Env, Value, value}
use Rattle.source_typing.specs.Types.{Char, Fat, Handle, Int, Key, Null, StaticType, Struct, Thin, Union, Unique, Unsigned, Void}
use Rattle.source_typing.specs.Types.{is_integer, is_null, is_pointer, is_same}
use Rattle.source_typing.specs.Verdicts.{Verdict, after, if_fits, refuse, unless_faulty}
use Rattle.cyc_types.specs.Layers.{outermost, pointer_to}
use Rattle.cyc_types.specs.Reaches.{reach_of}
use Rattle.cyc_types.specs.Regions.{region_of}
use Rattle.cyc_types.specs.Types.{static_type}
use Rattle.cyc_types.specs.declared.ctype.CType.{CType}
use Rattle.cyc_types.specs.declared.layer.Layer.{Layer}
use Rattle.cyc_types.specs.declared.layer.Layer.TheVariants as code
use Rattle.cyc_types.specs.declared.region.RegionId.{RegionId}
use Rattle.check_faults.specs.Verdicts.{Short, Wrong, shortened}
use Rattle.check_operators.specs.Operating.{applied_by, are_integers, compared_by, moves}
use Rattle.check_operators.specs.Pointers.{thin_regions}
use Rattle.check_operators.specs.TypeKinds.{is_thin, is_thin_outside}
use Rattle.check_operators.proofs.KindsOfTypes.{thin_kind}

moved : (g : Env) (o : Operator) (at : ℕ) (r : Region) (t b : StaticType) (m : Bool)
    → fat_moved m g o at (Fat r t) b ≡ applied_by m false g o at (Fat r t) b
moved g o at r t b true = refl
moved g o at r t b false = refl

unmoved : (g : Env) (o : Operator) (at : ℕ) (a b : StaticType) (m : Bool) → integers_joined m g o at a b ≡ applied_by false m g o at a b
unmoved g o at a b true = refl
unmoved g o at a b false = refl

pub applied_is : (g : Env) (o : Operator) (at : ℕ) (a b : StaticType) → applied_to g o at a b ≡ applied_by (moves o a b) (are_integers a b) g o at a b
applied_is g o at Int b = unmoved g o at Int b (is_integer Int && is_integer b)
applied_is g o at Unsigned b = unmoved g o at Unsigned b (is_integer Unsigned && is_integer b)
applied_is g o at Char b = unmoved g o at Char b (is_integer Char && is_integer b)
applied_is g o at Void b = unmoved g o at Void b (is_integer Void && is_integer b)
applied_is g o at Null b = unmoved g o at Null b (is_integer Null && is_integer b)
applied_is g o at (Thin n r t) b = unmoved g o at (Thin n r t) b (is_integer (Thin n r t) && is_integer b)
applied_is g o at (Fat r t) b = moved g o at r t b (is_move o && is_integer b)
applied_is g o at (Unique n t) b = unmoved g o at (Unique n t) b (is_integer (Unique n t) && is_integer b)
applied_is g o at (Handle r) b = unmoved g o at (Handle r) b (is_integer (Handle r) && is_integer b)
applied_is g o at (Key r) b = unmoved g o at (Key r) b (is_integer (Key r) && is_integer b)
applied_is g o at (Struct tag rs) b = unmoved g o at (Struct tag rs) b (is_integer (Struct tag rs) && is_integer b)
applied_is g o at (Union tag rs) b = unmoved g o at (Union tag rs) b (is_integer (Union tag rs) && is_integer b)

-- ---- pointers that are compared

-- what isn't two thin pointers
other_compared : (g : Env) (at : ℕ) (a b : StaticType) → (is_thin a && is_thin b) ≡ false
    → compared g at a b ≡ after (if_fits ((is_pointer a && is_null b) || (is_null a && is_pointer b)) at Int) (value at)
other_compared g at (Thin n r t) Int h = refl
other_compared g at (Thin n r t) Unsigned h = refl
other_compared g at (Thin n r t) Char h = refl
other_compared g at (Thin n r t) Void h = refl
other_compared g at (Thin n r t) Null h = refl
other_compared g at (Thin n r t) (Thin m q u) h = absurd cc
other_compared g at (Thin n r t) (Fat q u) h = refl
other_compared g at (Thin n r t) (Unique m u) h = refl
other_compared g at (Thin n r t) (Handle q) h = refl
other_compared g at (Thin n r t) (Key q) h = refl
other_compared g at (Thin n r t) (Struct tag rs) h = refl
other_compared g at (Thin n r t) (Union tag rs) h = refl
other_compared g at Int b h = refl
other_compared g at Unsigned b h = refl
other_compared g at Char b h = refl
other_compared g at Void b h = refl
other_compared g at Null b h = refl
other_compared g at (Fat r t) b h = refl
other_compared g at (Unique n t) b h = refl
other_compared g at (Handle r) b h = refl
other_compared g at (Key r) b h = refl
other_compared g at (Struct tag rs) b h = refl
other_compared g at (Union tag rs) b h = refl

not_thin : (l k : Option Layer) → thin_regions l k ≡ None → (is_thin_outside l && is_thin_outside k) ≡ false
not_thin None k h = refl
not_thin (Some (code.Fat r)) k h = refl
not_thin (Some (code.Unique n)) k h = refl
not_thin (Some (code.Thin n r)) None h = refl
not_thin (Some (code.Thin n r)) (Some (code.Fat q)) h = refl
not_thin (Some (code.Thin n r)) (Some (code.Unique m)) h = refl
not_thin (Some (code.Thin n r)) (Some (code.Thin m q)) h = absurd (true≢false (sym (ap is_none h)))

pub others_compared : (g : Env) (at : ℕ) (t u : CType) → thin_regions (outermost t.layers.items) (outermost u.layers.items) ≡ None
    → compared g at (static_type t) (static_type u)
    ≡ after (if_fits ((is_pointer (static_type t) && is_null (static_type u)) || (is_null (static_type t) && is_pointer (static_type u))) at Int) (value at)
others_compared g at t u h =
    other_compared g at (static_type t) (static_type u)
    (ap (λ b. b && is_thin (static_type u)) (thin_kind t) ∙ ap (λ b. is_thin_outside (outermost t.layers.items) && b) (thin_kind u)
    ∙ not_thin (outermost t.layers.items) (outermost u.layers.items) h)

-- two thin pointers, by what they lead to
module _ (g : Env) (at : ℕ) (p q : StaticType) where
  abbrev by_regions : Option (RegionId × RegionId) → Verdict Value
  by_regions None = refuse type_rule at
  by_regions (Some x) = compared_thin g at (is_same p q) (region_of x.0) (region_of x.1)

  pub pointers_compared : (l k : Option Layer) (x : RegionId × RegionId) (t u : StaticType) → thin_regions l k ≡ Some x
      → MatchOption l (p ≡ t) (λ m. t ≡ pointer_to m p) → MatchOption k (q ≡ u) (λ m. u ≡ pointer_to m q)
      → compared g at t u ≡ compared_thin g at (is_same p q) (region_of x.0) (region_of x.1)
  pointers_compared None k x t u h i j = absurd (true≢false (ap is_none h))
  pointers_compared (Some (code.Fat r)) k x t u h i j = absurd (true≢false (ap is_none h))
  pointers_compared (Some (code.Unique n)) k x t u h i j = absurd (true≢false (ap is_none h))
  pointers_compared (Some (code.Thin n r)) None x t u h i j = absurd (true≢false (ap is_none h))
  pointers_compared (Some (code.Thin n r)) (Some (code.Fat s)) x t u h i j = absurd (true≢false (ap is_none h))
  pointers_compared (Some (code.Thin n r)) (Some (code.Unique m)) x t u h i j = absurd (true≢false (ap is_none h))
  pointers_compared (Some (code.Thin n r)) (Some (code.Thin m s)) x t u h i j =
      ap (λ a. compared g at a u) i ∙ ap (compared g at (Thin (reach_of n) (region_of r) p)) j ∙ ap by_regions h

-- Region is the earlier one of two rules
pub tests_compared : (ordered live : Bool) (at : ℕ)
    → shortened (unless_faulty (test ordered outlives_rule at ++ test live region_rule at) (value at Int)) ≡ shortened (compared_by ordered live at)
tests_compared true true at = refl
tests_compared true false at = refl
tests_compared false true at = refl
tests_compared false false at =
    let later : nat_le (at * 16 + 7) (at * 16 + 6) ≡ false = grind (arith, nat_tests) in
    ap (λ (b : Bool). as_wrong b) later
  where
    as_wrong : Bool → Short Value
    as_wrong b = Wrong (if b then fault outlives_rule at else fault region_rule at)

-- `==` and `!=` on what isn't two integers
pub equality_applied : (g : Env) (o : Operator) (at : ℕ) (a b : StaticType) → moves o a b ≡ false → are_integers a b ≡ false → is_equality o ≡ true
    → compared g at a b ≡ applied_to g o at a b
equality_applied g o at a b h i j =
    sym (applied_is g o at a b ∙ ap (λ m. applied_by m (are_integers a b) g o at a b) h ∙ ap (λ n. applied_by false n g o at a b) i
    ∙ ap (λ e. if_equality e g at a b) j)
