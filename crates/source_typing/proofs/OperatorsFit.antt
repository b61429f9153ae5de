-- What no fault says of operators.
use Rattle.std.proofs.Common.{◌≡◌, ℕ, Bool, true, false, ◌⊎◌, inl, inr, List, [], refl, sym, ap, subst}
use Rattle.std.specs.Prelude.{◌&&◌, ◌||◌, ◌++◌}
use Rattle.std.proofs.lemmas.Bool.{and_parts, or_cases}
use Rattle.cyc_tree.specs.declared.expression.Operator.{Operator}
use Rattle.source_typing.specs.Faults.{Fault, test, outlives_rule, region_rule}
use Rattle.source_typing.specs.Verdicts.{Of, after, if_fits}
use Rattle.source_typing.specs.Regions.{Region}
use Rattle.source_typing.specs.Types.{StaticType, Int, Unsigned, Char, Void, Null, Thin, Fat, Unique, Handle, Key, Struct, Union, is_integer, is_pointer}
use Rattle.source_typing.specs.Types.{is_null}
use Rattle.source_typing.specs.Types.{is_testable, is_same, are_equal, Match, Equals, ByRegions, Differs, compare}
use Rattle.source_typing.specs.Scope.{Env, Value, Nowhere, value, is_live, outlives}
use Rattle.source_typing.specs.Converts.{IsInteger}
use Rattle.source_typing.specs.Operators.{promoted, on_integers, is_equality, is_move, compared_thin, compared, if_equality, fat_moved, integers_joined}
use Rattle.source_meaning.specs.Shapes.{Reach}
use Rattle.source_typing.specs.Operators.{applied_to}
use Rattle.source_typing.specs.Operators.{tested_both, tested, signed, is_fat, counted}
use Rattle.source_typing.proofs.Inversion.{of_is, unless_is, test_is, none_of_both}
use Rattle.source_typing.proofs.Converting.{compare_is}

-- what an operator takes and gives: two integers; a fat pointer that is moved; a pointer and `NULL`; two thin pointers into live regions in order
pub data Operates (g : Env) (o : Operator) : StaticType → StaticType → StaticType → Type 0 where
  OnIntegers : {a b : StaticType} → IsInteger a → IsInteger b → Operates g o a b (on_integers o a b)
  OnFat : {r : Region} {t b : StaticType} → is_move o ≡ true → IsInteger b → Operates g o (Fat r t) b (Fat r t)
  WithNull : {a : StaticType} → is_equality o ≡ true → is_pointer a ≡ true → Operates g o a Null Int
  NullWith : {b : StaticType} → is_equality o ≡ true → is_pointer b ≡ true → Operates g o Null b Int
  OnThin : {n m : Reach} {r q : Region} {t : StaticType} → is_equality o ≡ true → is_live g r ≡ true → is_live g q ≡ true
      → (outlives g r q ≡ true) ⊎ (outlives g q r ≡ true) → Operates g o (Thin n r t) (Thin m q t) Int

-- ---- helpers

pub null_is : (t : StaticType) → is_null t ≡ true → t ≡ Null
null_is Int e = absurd cc
null_is Unsigned e = absurd cc
null_is Char e = absurd cc
null_is Void e = absurd cc
null_is Null e = refl
null_is (Thin n r t) e = absurd cc
null_is (Fat r t) e = absurd cc
null_is (Unique n t) e = absurd cc
null_is (Handle r) e = absurd cc
null_is (Key r) e = absurd cc
null_is (Struct tag rs) e = absurd cc
null_is (Union tag rs) e = absurd cc

pub value_is : (at : ℕ) (t : StaticType) (w : Value) → value at t ≡ Of w → w.type ≡ t
value_is at t w e = ap (λ (v : Value). v.type) (sym (of_is (record { at = at; type = t; seat = Nowhere }) w e))

-- a test, and then a value of a type
fitted : (b : Bool) (at at' : ℕ) (t : StaticType) (w : Value) → after (if_fits b at t) (value at') ≡ Of w → (b ≡ true) × (w.type ≡ t)
fitted true at at' t w e = (refl, value_is at' t w e)
fitted false at at' t w e = absurd cc

-- ---- comparisons

with_null : (g : Env) (o : Operator) (a b u : StaticType) → is_equality o ≡ true → (is_pointer a && is_null b) || (is_null a && is_pointer b) ≡ true → u ≡ Int
    → Operates g o a b u
with_null g o a b u q c k = by_sides (or_cases (is_pointer a && is_null b) (is_null a && is_pointer b) c)
  where
    by_sides : (is_pointer a && is_null b ≡ true) ⊎ (is_null a && is_pointer b ≡ true) → Operates g o a b u
    by_sides (inl l) =
        let x : (is_pointer a ≡ true) × (is_null b ≡ true) = and_parts (is_pointer a) (is_null b) l in
        subst (λ (v : StaticType). Operates g o a b v) (sym k) (subst (λ (v : StaticType). Operates g o a v Int) (sym (null_is b x.1)) (WithNull q x.0))
    by_sides (inr r) =
        let x : (is_null a ≡ true) × (is_pointer b ≡ true) = and_parts (is_null a) (is_pointer b) r in
        subst (λ (v : StaticType). Operates g o a b v) (sym k) (subst (λ (v : StaticType). Operates g o v b Int) (sym (null_is a x.0)) (NullWith q x.1))

null_compared : (g : Env) (o : Operator) (at : ℕ) (a b : StaticType) (w : Value) → is_equality o ≡ true
    → after (if_fits ((is_pointer a && is_null b) || (is_null a && is_pointer b)) at Int) (value at) ≡ Of w → Operates g o a b w.type
null_compared g o at a b w q e =
    let x : ((is_pointer a && is_null b) || (is_null a && is_pointer b) ≡ true) × (w.type ≡ Int) =
    fitted ((is_pointer a && is_null b) || (is_null a && is_pointer b)) at at Int w e in
    with_null g o a b w.type q x.0 x.1

same_is : (m : Match) → are_equal m ≡ true → m ≡ Equals
same_is Equals e = refl
same_is ByRegions e = absurd cc
same_is Differs e = absurd cc

thin_compared : (g : Env) (o : Operator) (at : ℕ) (n m : Reach) (c : Bool) (r q : Region) (t u : StaticType) (w : Value) → is_equality o ≡ true
    → is_same t u ≡ c
    → compared_thin g at c r q ≡ Of w → Operates g o (Thin n r t) (Thin m q u) w.type
thin_compared g o at n m false r q t u w k c e = absurd cc
thin_compared g o at n m true r q t u w k c e = by_tests (unless_is (ordered ++ both_live) (value at Int) w e)
  where
    ordered : List Fault
    ordered = test (outlives g r q || outlives g q r) outlives_rule at

    both_live : List Fault
    both_live = test (is_live g r && is_live g q) region_rule at

    by_tests : (ordered ++ both_live ≡ []) × (value at Int ≡ Of w) → Operates g o (Thin n r t) (Thin m q u) w.type
    by_tests (z, v) =
        let x : (ordered ≡ []) × (both_live ≡ []) = none_of_both ordered both_live z in
        let l : (is_live g r ≡ true) × (is_live g q ≡ true) = and_parts (is_live g r) (is_live g q) (test_is (is_live g r && is_live g q) region_rule at x.1) in
        let y : (outlives g r q ≡ true) ⊎ (outlives g q r ≡ true) =
        or_cases (outlives g r q) (outlives g q r) (test_is (outlives g r q || outlives g q r) outlives_rule at x.0) in
        let s : t ≡ u = compare_is t u (same_is (compare t u) c) in
        subst (λ (a : StaticType). Operates g o (Thin n r t) (Thin m q u) a) (sym (value_is at Int w v))
        (subst (λ (a : StaticType). Operates g o (Thin n r t) (Thin m q a) Int) s (OnThin k l.0 l.1 y))

compared_is : (g : Env) (o : Operator) (at : ℕ) (a b : StaticType) (w : Value) → is_equality o ≡ true → compared g at a b ≡ Of w → Operates g o a b w.type
compared_is g o at Int b w k e = null_compared g o at Int b w k e
compared_is g o at Unsigned b w k e = null_compared g o at Unsigned b w k e
compared_is g o at Char b w k e = null_compared g o at Char b w k e
compared_is g o at Void b w k e = null_compared g o at Void b w k e
compared_is g o at Null b w k e = null_compared g o at Null b w k e
compared_is g o at (Thin n r t) Int w k e = null_compared g o at (Thin n r t) Int w k e
compared_is g o at (Thin n r t) Unsigned w k e = null_compared g o at (Thin n r t) Unsigned w k e
compared_is g o at (Thin n r t) Char w k e = null_compared g o at (Thin n r t) Char w k e
compared_is g o at (Thin n r t) Void w k e = null_compared g o at (Thin n r t) Void w k e
compared_is g o at (Thin n r t) Null w k e = null_compared g o at (Thin n r t) Null w k e
compared_is g o at (Thin n r t) (Thin m q u) w k e = thin_compared g o at n m (is_same t u) r q t u w k refl e
compared_is g o at (Thin n r t) (Fat q u) w k e = null_compared g o at (Thin n r t) (Fat q u) w k e
compared_is g o at (Thin n r t) (Unique m u) w k e = null_compared g o at (Thin n r t) (Unique m u) w k e
compared_is g o at (Thin n r t) (Handle q) w k e = null_compared g o at (Thin n r t) (Handle q) w k e
compared_is g o at (Thin n r t) (Key q) w k e = null_compared g o at (Thin n r t) (Key q) w k e
compared_is g o at (Thin n r t) (Struct b qs) w k e = null_compared g o at (Thin n r t) (Struct b qs) w k e
compared_is g o at (Thin n r t) (Union b qs) w k e = null_compared g o at (Thin n r t) (Union b qs) w k e
compared_is g o at (Fat r t) b w k e = null_compared g o at (Fat r t) b w k e
compared_is g o at (Unique n t) b w k e = null_compared g o at (Unique n t) b w k e
compared_is g o at (Handle r) b w k e = null_compared g o at (Handle r) b w k e
compared_is g o at (Key r) b w k e = null_compared g o at (Key r) b w k e
compared_is g o at (Struct tag rs) b w k e = null_compared g o at (Struct tag rs) b w k e
compared_is g o at (Union tag rs) b w k e = null_compared g o at (Union tag rs) b w k e

equality_is : (c : Bool) (g : Env) (o : Operator) (at : ℕ) (a b : StaticType) (w : Value) → is_equality o ≡ c → if_equality c g at a b ≡ Of w
    → Operates g o a b w.type
equality_is true g o at a b w k e = compared_is g o at a b w k e
equality_is false g o at a b w k e = absurd cc

-- ---- all operators

fat_is : (c : Bool) (g : Env) (o : Operator) (at : ℕ) (r : Region) (t b : StaticType) (w : Value) → is_move o && is_integer b ≡ c
    → fat_moved c g o at (Fat r t) b ≡ Of w → Operates g o (Fat r t) b w.type
fat_is true g o at r t b w k e =
    let x : (is_move o ≡ true) × (is_integer b ≡ true) = and_parts (is_move o) (is_integer b) k in
    subst (λ (u : StaticType). Operates g o (Fat r t) b u) (sym (value_is at (Fat r t) w e)) (OnFat x.0 x.1)
fat_is false g o at r t b w k e = equality_is (is_equality o) g o at (Fat r t) b w refl e

joined_is : (c : Bool) (g : Env) (o : Operator) (at : ℕ) (a b : StaticType) (w : Value) → is_integer a && is_integer b ≡ c
    → integers_joined c g o at a b ≡ Of w → Operates g o a b w.type
joined_is true g o at a b w k e =
    let x : (is_integer a ≡ true) × (is_integer b ≡ true) = and_parts (is_integer a) (is_integer b) k in
    subst (λ (u : StaticType). Operates g o a b u) (sym (value_is at (on_integers o a b) w e)) (OnIntegers x.0 x.1)
joined_is false g o at a b w k e = equality_is (is_equality o) g o at a b w refl e

pub applied_to_is : (g : Env) (o : Operator) (at : ℕ) (a b : StaticType) (w : Value) → applied_to g o at a b ≡ Of w → Operates g o a b w.type
applied_to_is g o at Int b w e = joined_is (is_integer Int && is_integer b) g o at Int b w refl e
applied_to_is g o at Unsigned b w e = joined_is (is_integer Unsigned && is_integer b) g o at Unsigned b w refl e
applied_to_is g o at Char b w e = joined_is (is_integer Char && is_integer b) g o at Char b w refl e
applied_to_is g o at Void b w e = joined_is (is_integer Void && is_integer b) g o at Void b w refl e
applied_to_is g o at Null b w e = joined_is (is_integer Null && is_integer b) g o at Null b w refl e
applied_to_is g o at (Thin n r t) b w e = joined_is (is_integer (Thin n r t) && is_integer b) g o at (Thin n r t) b w refl e
applied_to_is g o at (Fat r t) b w e = fat_is (is_move o && is_integer b) g o at r t b w refl e
applied_to_is g o at (Unique n t) b w e = joined_is (is_integer (Unique n t) && is_integer b) g o at (Unique n t) b w refl e
applied_to_is g o at (Handle r) b w e = joined_is (is_integer (Handle r) && is_integer b) g o at (Handle r) b w refl e
applied_to_is g o at (Key r) b w e = joined_is (is_integer (Key r) && is_integer b) g o at (Key r) b w refl e
applied_to_is g o at (Struct tag rs) b w e = joined_is (is_integer (Struct tag rs) && is_integer b) g o at (Struct tag rs) b w refl e
applied_to_is g o at (Union tag rs) b w e = joined_is (is_integer (Union tag rs) && is_integer b) g o at (Union tag rs) b w refl e

-- `&&` and `||`
pub tested_both_is : (a b w : Value) → tested_both a b ≡ Of w → (is_testable a.type ≡ true) × (is_testable b.type ≡ true) × (w.type ≡ Int)
tested_both_is a b w e =
    let x : (is_testable a.type && is_testable b.type ≡ true) × (w.type ≡ Int) = fitted (is_testable a.type && is_testable b.type) a.at a.at Int w e in
    let y : (is_testable a.type ≡ true) × (is_testable b.type ≡ true) = and_parts (is_testable a.type) (is_testable b.type) x.0 in
    (y.0, y.1, x.1)

-- `!`
pub tested_is : (at : ℕ) (v w : Value) → tested at v ≡ Of w → (is_testable v.type ≡ true) × (w.type ≡ Int)
tested_is at v w e = fitted (is_testable v.type) at at Int w e

-- `-` and `~`
pub signed_is : (at : ℕ) (v w : Value) → signed at v ≡ Of w → IsInteger v.type × (w.type ≡ promoted v.type)
signed_is at v w e = fitted (is_integer v.type) at at (promoted v.type) w e

-- `numelts`
pub counted_is : (at : ℕ) (v w : Value) → counted at v ≡ Of w → (is_fat v.type ≡ true) × (w.type ≡ Unsigned)
counted_is at v w e = fitted (is_fat v.type) at at Unsigned w e
