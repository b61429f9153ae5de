-- What has no fault converts.
use Rattle.std.proofs.Common.{◌≡◌, ℕ, Bool, true, false, Option, Some, None, List, [], ◌∷◌, refl, ap, subst}
use Rattle.std.proofs.lemmas.Bool.{eqb-true, and_parts}
use Rattle.std.proofs.lemmas.Slice.Eq.{bytes_eq-Decides}
use Rattle.std.specs.Prelude.{bytes_eq, nat_le}
use Rattle.source_meaning.specs.Shapes.{count_of, MayBeNull, NeverNull, same_bound, single}
use Rattle.source_typing.specs.Faults.{region_rule, outlives_rule}
use Rattle.source_typing.specs.Regions.{Region, TheHeap, Level, same_id, Regions}
use Rattle.source_typing.specs.Types.{StaticType, Int, Unsigned, Char, Void, Null, Thin, Fat, Unique, Handle, Key, Struct, Union, is_integer}
use Rattle.source_typing.specs.Types.{Match, Equals, ByRegions, Differs, only, by_regions, matched, same_bool, same_ids, compare}
use Rattle.source_typing.specs.Conversions.{if_enough, conversion, ordered, if_integer, unless_differs, equal_types, broken}
use Rattle.source_typing.specs.Converts.{Converts, Integers, NullToThin, NullToFat, NullToUnique, Thins, Fats, ThinToFat, FatToThin, Uniques, Same}
use Rattle.source_meaning.proofs.Reaches.{bound_is}

-- ---- equal types

only_is : (b : Bool) (m : Match) → only b m ≡ Equals → (b ≡ true) × (m ≡ Equals)
only_is true m e = (refl, e)
only_is false m e = absurd cc

not_by_regions : (m : Match) → by_regions m ≡ Equals → ⊥
not_by_regions Equals e = cc
not_by_regions ByRegions e = cc
not_by_regions Differs e = cc

matched_is : (b : Bool) (m : Match) → matched b m ≡ Equals → (b ≡ true) × (m ≡ Equals)
matched_is true m e = (refl, e)
matched_is false m e = absurd (not_by_regions m e)

pub bool_is : (a b : Bool) → same_bool a b ≡ true → a ≡ b
bool_is true true e = refl
bool_is true false e = absurd cc
bool_is false true e = absurd cc
bool_is false false e = refl

pub id_is : (r q : Region) → same_id r q ≡ true → r ≡ q
id_is TheHeap TheHeap e = refl
id_is TheHeap (Level k) e = absurd cc
id_is (Level k) TheHeap e = absurd cc
id_is (Level j) (Level k) e = ap (λ (n : ℕ). Level n) (eqb-true j k e)

ids_are : (rs qs : List Region) → same_ids rs qs ≡ true → rs ≡ qs
ids_are [] [] e = refl
ids_are [] (q ∷ qs) e = absurd cc
ids_are (r ∷ rs) [] e = absurd cc
ids_are (r ∷ rs) (q ∷ qs) e =
    let a : (same_id r q ≡ true) × (same_ids rs qs ≡ true) = and_parts (same_id r q) (same_ids rs qs) e in
    let b : r ≡ q = id_is r q a.0 in let c : rs ≡ qs = ids_are rs qs a.1 in cc

tags_match : (a b : List ℕ) (rs qs : List Region) → only (bytes_eq a b) (matched (same_ids rs qs) Equals) ≡ Equals → (a ≡ b) × (rs ≡ qs)
tags_match a b rs qs e =
    let h : (bytes_eq a b ≡ true) × (matched (same_ids rs qs) Equals ≡ Equals) = only_is (bytes_eq a b) (matched (same_ids rs qs) Equals) e in
    ((bytes_eq-Decides a b).0 h.0, ids_are rs qs (matched_is (same_ids rs qs) Equals h.1).0)

-- types that compare as equal are equal
pub compare_is : (t u : StaticType) → compare t u ≡ Equals → t ≡ u
compare_is Int Int e = refl
compare_is Int Unsigned e = absurd cc
compare_is Int Char e = absurd cc
compare_is Int Void e = absurd cc
compare_is Int Null e = absurd cc
compare_is Int (Thin m q u) e = absurd cc
compare_is Int (Fat q u) e = absurd cc
compare_is Int (Unique m u) e = absurd cc
compare_is Int (Handle q) e = absurd cc
compare_is Int (Key q) e = absurd cc
compare_is Int (Struct b qs) e = absurd cc
compare_is Int (Union b qs) e = absurd cc
compare_is Unsigned Int e = absurd cc
compare_is Unsigned Unsigned e = refl
compare_is Unsigned Char e = absurd cc
compare_is Unsigned Void e = absurd cc
compare_is Unsigned Null e = absurd cc
compare_is Unsigned (Thin m q u) e = absurd cc
compare_is Unsigned (Fat q u) e = absurd cc
compare_is Unsigned (Unique m u) e = absurd cc
compare_is Unsigned (Handle q) e = absurd cc
compare_is Unsigned (Key q) e = absurd cc
compare_is Unsigned (Struct b qs) e = absurd cc
compare_is Unsigned (Union b qs) e = absurd cc
compare_is Char Int e = absurd cc
compare_is Char Unsigned e = absurd cc
compare_is Char Char e = refl
compare_is Char Void e = absurd cc
compare_is Char Null e = absurd cc
compare_is Char (Thin m q u) e = absurd cc
compare_is Char (Fat q u) e = absurd cc
compare_is Char (Unique m u) e = absurd cc
compare_is Char (Handle q) e = absurd cc
compare_is Char (Key q) e = absurd cc
compare_is Char (Struct b qs) e = absurd cc
compare_is Char (Union b qs) e = absurd cc
compare_is Void Int e = absurd cc
compare_is Void Unsigned e = absurd cc
compare_is Void Char e = absurd cc
compare_is Void Void e = refl
compare_is Void Null e = absurd cc
compare_is Void (Thin m q u) e = absurd cc
compare_is Void (Fat q u) e = absurd cc
compare_is Void (Unique m u) e = absurd cc
compare_is Void (Handle q) e = absurd cc
compare_is Void (Key q) e = absurd cc
compare_is Void (Struct b qs) e = absurd cc
compare_is Void (Union b qs) e = absurd cc
compare_is Null Int e = absurd cc
compare_is Null Unsigned e = absurd cc
compare_is Null Char e = absurd cc
compare_is Null Void e = absurd cc
compare_is Null Null e = refl
compare_is Null (Thin m q u) e = absurd cc
compare_is Null (Fat q u) e = absurd cc
compare_is Null (Unique m u) e = absurd cc
compare_is Null (Handle q) e = absurd cc
compare_is Null (Key q) e = absurd cc
compare_is Null (Struct b qs) e = absurd cc
compare_is Null (Union b qs) e = absurd cc
compare_is (Thin n r t) Int e = absurd cc
compare_is (Thin n r t) Unsigned e = absurd cc
compare_is (Thin n r t) Char e = absurd cc
compare_is (Thin n r t) Void e = absurd cc
compare_is (Thin n r t) Null e = absurd cc
compare_is (Thin n r t) (Thin m q u) e =
    let a : (same_bound n m ≡ true) × (matched (same_id r q) (compare t u) ≡ Equals) = only_is (same_bound n m) (matched (same_id r q) (compare t u)) e in
    let b : (same_id r q ≡ true) × (compare t u ≡ Equals) = matched_is (same_id r q) (compare t u) a.1 in
    let c : n ≡ m = bound_is n m a.0 in let d : r ≡ q = id_is r q b.0 in let f : t ≡ u = compare_is t u b.1 in cc
compare_is (Thin n r t) (Fat q u) e = absurd cc
compare_is (Thin n r t) (Unique m u) e = absurd (not_by_regions (compare t u) (only_is (same_bound n (single m)) (by_regions (compare t u)) e).1)
compare_is (Thin n r t) (Handle q) e = absurd cc
compare_is (Thin n r t) (Key q) e = absurd cc
compare_is (Thin n r t) (Struct b qs) e = absurd cc
compare_is (Thin n r t) (Union b qs) e = absurd cc
compare_is (Fat r t) Int e = absurd cc
compare_is (Fat r t) Unsigned e = absurd cc
compare_is (Fat r t) Char e = absurd cc
compare_is (Fat r t) Void e = absurd cc
compare_is (Fat r t) Null e = absurd cc
compare_is (Fat r t) (Thin m q u) e = absurd cc
compare_is (Fat r t) (Fat q u) e =
    let b : (same_id r q ≡ true) × (compare t u ≡ Equals) = matched_is (same_id r q) (compare t u) e in
    let d : r ≡ q = id_is r q b.0 in let f : t ≡ u = compare_is t u b.1 in cc
compare_is (Fat r t) (Unique m u) e = absurd cc
compare_is (Fat r t) (Handle q) e = absurd cc
compare_is (Fat r t) (Key q) e = absurd cc
compare_is (Fat r t) (Struct b qs) e = absurd cc
compare_is (Fat r t) (Union b qs) e = absurd cc
compare_is (Unique n t) Int e = absurd cc
compare_is (Unique n t) Unsigned e = absurd cc
compare_is (Unique n t) Char e = absurd cc
compare_is (Unique n t) Void e = absurd cc
compare_is (Unique n t) Null e = absurd cc
compare_is (Unique n t) (Thin m q u) e = absurd (not_by_regions (compare t u) (only_is (same_bound (single n) m) (by_regions (compare t u)) e).1)
compare_is (Unique n t) (Fat q u) e = absurd cc
compare_is (Unique n t) (Unique m u) e =
    let a : (same_bool n m ≡ true) × (compare t u ≡ Equals) = only_is (same_bool n m) (compare t u) e in
    let c : n ≡ m = bool_is n m a.0 in let f : t ≡ u = compare_is t u a.1 in cc
compare_is (Unique n t) (Handle q) e = absurd cc
compare_is (Unique n t) (Key q) e = absurd cc
compare_is (Unique n t) (Struct b qs) e = absurd cc
compare_is (Unique n t) (Union b qs) e = absurd cc
compare_is (Handle r) Int e = absurd cc
compare_is (Handle r) Unsigned e = absurd cc
compare_is (Handle r) Char e = absurd cc
compare_is (Handle r) Void e = absurd cc
compare_is (Handle r) Null e = absurd cc
compare_is (Handle r) (Thin m q u) e = absurd cc
compare_is (Handle r) (Fat q u) e = absurd cc
compare_is (Handle r) (Unique m u) e = absurd cc
compare_is (Handle r) (Handle q) e = let d : r ≡ q = id_is r q (matched_is (same_id r q) Equals e).0 in cc
compare_is (Handle r) (Key q) e = absurd cc
compare_is (Handle r) (Struct b qs) e = absurd cc
compare_is (Handle r) (Union b qs) e = absurd cc
compare_is (Key r) Int e = absurd cc
compare_is (Key r) Unsigned e = absurd cc
compare_is (Key r) Char e = absurd cc
compare_is (Key r) Void e = absurd cc
compare_is (Key r) Null e = absurd cc
compare_is (Key r) (Thin m q u) e = absurd cc
compare_is (Key r) (Fat q u) e = absurd cc
compare_is (Key r) (Unique m u) e = absurd cc
compare_is (Key r) (Handle q) e = absurd cc
compare_is (Key r) (Key q) e = let d : r ≡ q = id_is r q (matched_is (same_id r q) Equals e).0 in cc
compare_is (Key r) (Struct b qs) e = absurd cc
compare_is (Key r) (Union b qs) e = absurd cc
compare_is (Struct a rs) Int e = absurd cc
compare_is (Struct a rs) Unsigned e = absurd cc
compare_is (Struct a rs) Char e = absurd cc
compare_is (Struct a rs) Void e = absurd cc
compare_is (Struct a rs) Null e = absurd cc
compare_is (Struct a rs) (Thin m q u) e = absurd cc
compare_is (Struct a rs) (Fat q u) e = absurd cc
compare_is (Struct a rs) (Unique m u) e = absurd cc
compare_is (Struct a rs) (Handle q) e = absurd cc
compare_is (Struct a rs) (Key q) e = absurd cc
compare_is (Struct a rs) (Struct b qs) e = let h : (a ≡ b) × (rs ≡ qs) = tags_match a b rs qs e in let c : a ≡ b = h.0 in let d : rs ≡ qs = h.1 in cc
compare_is (Struct a rs) (Union b qs) e = absurd cc
compare_is (Union a rs) Int e = absurd cc
compare_is (Union a rs) Unsigned e = absurd cc
compare_is (Union a rs) Char e = absurd cc
compare_is (Union a rs) Void e = absurd cc
compare_is (Union a rs) Null e = absurd cc
compare_is (Union a rs) (Thin m q u) e = absurd cc
compare_is (Union a rs) (Fat q u) e = absurd cc
compare_is (Union a rs) (Unique m u) e = absurd cc
compare_is (Union a rs) (Handle q) e = absurd cc
compare_is (Union a rs) (Key q) e = absurd cc
compare_is (Union a rs) (Struct b qs) e = absurd cc
compare_is (Union a rs) (Union b qs) e = let h : (a ≡ b) × (rs ≡ qs) = tags_match a b rs qs e in let c : a ≡ b = h.0 in let d : rs ≡ qs = h.1 in cc

-- ---- conversions

unless_none : (m : Match) (a : Option ℕ) (k : ℕ) → unless_differs m a (Some k) ≡ None → (m ≡ Equals) × (a ≡ None)
unless_none Equals a k e = (refl, e)
unless_none ByRegions a k e = absurd cc
unless_none Differs a k e = absurd cc

ordered_is : (b : Bool) → ordered b ≡ None → b ≡ true
ordered_is true e = refl
ordered_is false e = absurd cc

integer_is : (b : Bool) → if_integer b ≡ None → b ≡ true
integer_is true e = refl
integer_is false e = absurd cc

-- pointers to equal types into regions in order
pointees_are : (g : Regions) (t u : StaticType) (r q : Region) → unless_differs (compare t u) (ordered (g.order r q)) (Some outlives_rule) ≡ None
    → (t ≡ u) × (g.order r q ≡ true)
pointees_are g t u r q e =
    let h : (compare t u ≡ Equals) × (ordered (g.order r q) ≡ None) = unless_none (compare t u) (ordered (g.order r q)) outlives_rule e in
    (compare_is t u h.0, ordered_is (g.order r q) h.1)

enough_is : (b : Bool) (o : Option ℕ) → if_enough b o ≡ None → (b ≡ true) × (o ≡ None)
enough_is true o e = (refl, e)
enough_is false o e = absurd cc

-- a unique pointer doesn't convert to or from another region
never : (m : Match) → unless_differs m (Some region_rule) (Some region_rule) ≡ None → ⊥
never Equals e = cc
never ByRegions e = cc
never Differs e = cc

equals_convert : (g : Regions) (t u : StaticType) → equal_types (compare t u) ≡ None → Converts g t u
equals_convert g t u e = subst (λ (x : StaticType). Converts g t x) (compare_is t u (unless_none (compare t u) None outlives_rule e).0) Same

-- what has no fault converts
pub conversion_is : (g : Regions) (t u : StaticType) → conversion g t u ≡ None → Converts g t u
conversion_is g Int u e = Integers refl (integer_is (is_integer u) e)
conversion_is g Unsigned u e = Integers refl (integer_is (is_integer u) e)
conversion_is g Char u e = Integers refl (integer_is (is_integer u) e)
conversion_is g Void u e = absurd cc
conversion_is g Null Int e = absurd cc
conversion_is g Null Unsigned e = absurd cc
conversion_is g Null Char e = absurd cc
conversion_is g Null Void e = absurd cc
conversion_is g Null Null e = absurd cc
conversion_is g Null (Thin (MayBeNull count) q u) e = NullToThin
conversion_is g Null (Thin (NeverNull count) q u) e = absurd cc
conversion_is g Null (Fat q u) e = NullToFat
conversion_is g Null (Unique true u) e = NullToUnique
conversion_is g Null (Unique false u) e = absurd cc
conversion_is g Null (Handle q) e = absurd cc
conversion_is g Null (Key q) e = absurd cc
conversion_is g Null (Struct b qs) e = absurd cc
conversion_is g Null (Union b qs) e = absurd cc
conversion_is g (Thin n r t) Int e = absurd cc
conversion_is g (Thin n r t) Unsigned e = absurd cc
conversion_is g (Thin n r t) Char e = absurd cc
conversion_is g (Thin n r t) Void e = absurd cc
conversion_is g (Thin n r t) Null e = absurd cc
conversion_is g (Thin n r t) (Thin m q u) e =
    let few : (nat_le (count_of m) (count_of n) ≡ true) × (unless_differs (compare t u) (ordered (g.order r q)) (Some outlives_rule) ≡ None) =
    enough_is (nat_le (count_of m) (count_of n)) (unless_differs (compare t u) (ordered (g.order r q)) (Some outlives_rule)) e in
    let h : (t ≡ u) × (g.order r q ≡ true) = pointees_are g t u r q few.1 in
    subst (λ (x : StaticType). Converts g (Thin n r t) (Thin m q x)) h.0 (Thins few.0 h.1)
conversion_is g (Thin n r t) (Fat q u) e =
    let h : (t ≡ u) × (g.order r q ≡ true) = pointees_are g t u r q e in
    subst (λ (x : StaticType). Converts g (Thin n r t) (Fat q x)) h.0 (ThinToFat h.1)
conversion_is g (Thin n r t) (Unique m u) e = absurd (never (compare t u) e)
conversion_is g (Thin n r t) (Handle q) e = absurd cc
conversion_is g (Thin n r t) (Key q) e = absurd cc
conversion_is g (Thin n r t) (Struct b qs) e = absurd cc
conversion_is g (Thin n r t) (Union b qs) e = absurd cc
conversion_is g (Fat r t) Int e = absurd cc
conversion_is g (Fat r t) Unsigned e = absurd cc
conversion_is g (Fat r t) Char e = absurd cc
conversion_is g (Fat r t) Void e = absurd cc
conversion_is g (Fat r t) Null e = absurd cc
conversion_is g (Fat r t) (Thin m q u) e =
    let h : (t ≡ u) × (g.order r q ≡ true) = pointees_are g t u r q e in
    subst (λ (x : StaticType). Converts g (Fat r t) (Thin m q x)) h.0 (FatToThin h.1)
conversion_is g (Fat r t) (Fat q u) e =
    let h : (t ≡ u) × (g.order r q ≡ true) = pointees_are g t u r q e in
    subst (λ (x : StaticType). Converts g (Fat r t) (Fat q x)) h.0 (Fats h.1)
conversion_is g (Fat r t) (Unique m u) e = absurd (never (compare t u) e)
conversion_is g (Fat r t) (Handle q) e = absurd cc
conversion_is g (Fat r t) (Key q) e = absurd cc
conversion_is g (Fat r t) (Struct b qs) e = absurd cc
conversion_is g (Fat r t) (Union b qs) e = absurd cc
conversion_is g (Unique n t) Int e = absurd cc
conversion_is g (Unique n t) Unsigned e = absurd cc
conversion_is g (Unique n t) Char e = absurd cc
conversion_is g (Unique n t) Void e = absurd cc
conversion_is g (Unique n t) Null e = absurd cc
conversion_is g (Unique n t) (Thin m q u) e =
    absurd (never (compare t u) (enough_is (nat_le (count_of m) 1) (unless_differs (compare t u) (Some region_rule) (Some region_rule)) e).1)
conversion_is g (Unique n t) (Fat q u) e = absurd (never (compare t u) e)
conversion_is g (Unique n t) (Unique m u) e =
    subst (λ (x : StaticType). Converts g (Unique n t) (Unique m x)) (compare_is t u (unless_none (compare t u) None outlives_rule e).0) Uniques
conversion_is g (Unique n t) (Handle q) e = absurd cc
conversion_is g (Unique n t) (Key q) e = absurd cc
conversion_is g (Unique n t) (Struct b qs) e = absurd cc
conversion_is g (Unique n t) (Union b qs) e = absurd cc
conversion_is g (Handle r) u e = equals_convert g (Handle r) u e
conversion_is g (Key r) u e = equals_convert g (Key r) u e
conversion_is g (Struct a rs) u e = equals_convert g (Struct a rs) u e
conversion_is g (Union a rs) u e = equals_convert g (Union a rs) u e

pub broken_is : (at : ℕ) (c : Option ℕ) → broken at c ≡ [] → c ≡ None
broken_is at None e = refl
broken_is at (Some rule) e = absurd cc
