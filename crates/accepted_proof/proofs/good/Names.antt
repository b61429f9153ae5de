-- Names and calls where all is known of each name in scope.
use Rattle.std.proofs.Common.{◌≡◌, ℕ, zero, suc, Bool, true, false, Option, Some, None, List, [], ◌∷◌, refl, sym, ap, subst}
use Rattle.std.specs.Prelude.{bytes_eq, if◌then◌else◌, length, map, nat_eq, replicate, ◌++◌, ◌&&◌}
use Rattle.type_proof.specs.Entries.{AreObjects, IsObjectType, IsPlain}
use Rattle.source_typing.specs.Named.{AllBelow, TypeBelow}
use Rattle.source_typing.specs.Calls.{
  Target,
  ToBuiltin,
  ToFunction,
  ToStruct,
  all_convert,
  all_known,
  all_live,
  all_ordered,
  arguments_converted,
  arguments_counted,
  arguments_fit,
  builtin_parameters,
  call_entered,
  called,
  if_all_known,
  part_types,
  target,
  target_of_tag,
  if_union,
  typed_result,
  union_made,
  union_member,
  union_tag,
}
use Rattle.source_typing.specs.Faults.{effect_rule, outlives_rule, test}
use Rattle.source_typing.specs.Fixing.{Fit, all_fits, first_fit, fixed_from, fixed_known, fixed_one, is_found, more}
use Rattle.source_typing.specs.Regions.{Level, Region, same_id}
use Rattle.source_typing.specs.Scope.{Enclosing, Env, InRegion, InUnique, NotKnown, Nowhere, Value, value}
use Rattle.source_typing.specs.Tables.{Arrayed, Counter, Entry, OfBuiltin, OfFunction, OfOther, OfTag, OfValue, Part, Stored, Tables, Tag, Unknown, argument}
use Rattle.source_typing.specs.Tables.{find, part_in}
use Rattle.source_typing.specs.Types.{Char, Fat, Handle, Int, Key, Null, StaticType, Struct, Thin, Union, Unique, Unsigned, Void, renamed}
use Rattle.source_typing.specs.Verdicts.{Faulty, Of, Unjudged, Verdict}
use Rattle.source_typing.specs.Written.{Found, Is, IsUnique, Missing, if_sound}
use Rattle.cyc_tree.specs.Tree as tree
use Rattle.type_proof.proofs.expressions.Fixed.{EnclosingBelow, ValuesBelow, fixed_within, plain_below}
use Rattle.type_proof.proofs.expressions.Words.{plain_renamed}
use Rattle.accepted_proof.specs.Good.{AllGood, IsAround, IsGoodEntry, IsGoodSignature, IsGoodTag, IsValueType, SeatBelow, Surely}
use Rattle.accepted_proof.proofs.Sure.{surely_after, surely_both, surely_other, surely_since, surely_unless}

-- ---- what a name means

abbrev pub MeansGood : ℕ → Option Entry → Type 0
MeansGood count None = Unit {0}
MeansGood count (Some e) = IsGoodEntry count e

pub found_good : (count : ℕ) (g : Tables) (x : List ℕ) → AllGood count g → MeansGood count (find g x)
found_good count [] x h = tt
found_good count (n ∷ ns) x h = by (bytes_eq n.name x) (found_good count ns x h.1)
  where
    by : (b : Bool) → MeansGood count (find ns x) → MeansGood count (if b then Some n.entry else find ns x)
    by true k = h.0
    by false k = k

-- a place of an object
pub record IsGoodPlace (count : ℕ) (v : Value) : Type 0 where
  pub type : IsObjectType v.type
  pub below : TypeBelow count v.type
  pub seat : SeatBelow count v.seat

-- ---- what is called

abbrev pub IsGoodTarget : Target → Type 0
IsGoodTarget (ToBuiltin n) = Unit {0}
IsGoodTarget (ToStruct t) = IsGoodTag t
IsGoodTarget (ToFunction s) = IsGoodSignature s

pub target_judged : (count at : ℕ) (e : Option Entry) → MeansGood count e → Surely (λ u. IsGoodTarget u) (target at e)
target_judged count at None h = tt
target_judged count at (Some (OfBuiltin n)) h = tt
target_judged count at (Some (OfFunction s)) h = subst (λ b. Surely (λ u. IsGoodTarget u) (if_sound b (Of (ToFunction s)))) (sym h.sound) h
target_judged count at (Some (OfTag t)) h = by t.is_union
  where
    by : (b : Bool) → Surely (λ u. IsGoodTarget u) (target_of_tag b t at)
    by true = surely_other (λ u. IsGoodTarget u) t.sound at h.sound
    by false = subst (λ b. Surely (λ u. IsGoodTarget u) (if_sound b (Of (ToStruct t)))) (sym h.sound) h
target_judged count at (Some (OfValue (Stored t r))) h = tt
target_judged count at (Some (OfValue (Arrayed t r))) h = tt
target_judged count at (Some (OfValue Counter)) h = tt
target_judged count at (Some (OfValue (Unknown true))) h = absurd h
target_judged count at (Some (OfValue (Unknown false))) h = absurd h
target_judged count at (Some OfOther) h = absurd h

-- ---- regions in place of region variables

abbrev Any : {A : Type 0} → A → Type 0
Any a = Unit {0}

-- a region variable stands for a region, or it can't
none_fixed : (count : ℕ) (i : Enclosing) (at : ℕ) → IsAround count i → Surely (λ (r : Region). Any r) (fixed_one i at None)
none_fixed count (InRegion r) at h = tt
none_fixed count InUnique at h = tt
none_fixed count NotKnown at h = absurd h

one_fixed : (count : ℕ) (i : Enclosing) (at : ℕ) (fs : List Fit) (k : ℕ) → IsAround count i
    → Surely (λ (r : Region). Any r) (fixed_one i at (first_fit fs k))
one_fixed count i at [] k h = none_fixed count i at h
one_fixed count i at (f ∷ fs) k h = by (same_id f.of (Level k)) f.is (one_fixed count i at fs k h)
  where
    by : (b : Bool) (q : Found) → Surely (λ (r : Region). Any r) (fixed_one i at (first_fit fs k))
        → Surely (λ (r : Region). Any r) (fixed_one i at (if b && is_found q then Some (record f { is = q }) else first_fit fs k))
    by true (Is q) l = tt
    by true IsUnique l = tt
    by true Missing l = l
    by false q l = l

all_fixed : (count : ℕ) (i : Enclosing) (at : ℕ) (fs : List Fit) (k n : ℕ) → IsAround count i
    → Surely (λ (rs : List Region). Any rs) (fixed_from i at fs k n)
all_fixed count i at fs k zero h = tt
all_fixed count i at fs k (suc n) h =
    surely_both (λ (r : Region). Any r) (λ (rs : List Region). Any rs) (λ (rs : List Region). Any rs) (fixed_one i at (first_fit fs k))
    (fixed_from i at fs (suc k) n) more (one_fixed count i at fs k h) (all_fixed count i at fs (suc k) n h) (λ r rs a b. tt)

around_below : (count : ℕ) (i : Enclosing) → IsAround count i → EnclosingBelow count i
around_below count (InRegion r) h = h
around_below count InUnique h = tt
around_below count NotKnown h = absurd h

-- ---- arguments

abbrev some_types : List StaticType → List (Option StaticType)
some_types ts = map (λ (t : StaticType). Some t) ts

all_are_known : (ts : List StaticType) → all_known (some_types ts) ≡ true
all_are_known [] = refl
all_are_known (t ∷ ts) = all_are_known ts

-- Arguments fit parameters that are objects, and the region variables then stand for regions in scope; or they have a fault.
pub arguments_judged : (g : Env) (at n : ℕ) (ts : List StaticType) (vs : List Value) → IsAround g.regions.count g.enclosing → AreObjects ts
    → ValuesBelow g.regions.count vs → Surely (λ (rs : List Region). AllBelow g.regions.count rs) (arguments_fit g at n (some_types ts) vs)
arguments_judged g at n ts vs e w h = by (nat_eq (length (some_types ts)) (length vs))
  where
    fits : List Fit
    fits = all_fits (some_types ts) vs

    fixed : Surely (λ (rs : List Region). AllBelow g.regions.count rs) (fixed_from g.enclosing at fits 0 n)
    fixed =
        surely_since (λ (rs : List Region). Any rs) (λ (rs : List Region). AllBelow g.regions.count rs) (fixed_from g.enclosing at fits 0 n)
        (all_fixed g.regions.count g.enclosing at fits 0 n e)
        (λ rs is k. fixed_within g.regions.count at n g.enclosing ts vs rs (around_below g.regions.count g.enclosing e) w h is)

    converted : (some : List (Option Region)) (v : Verdict (List Region)) → Surely (λ (rs : List Region). AllBelow g.regions.count rs) v
        → Surely (λ (rs : List Region). AllBelow g.regions.count rs) (arguments_converted g some (some_types ts) vs v)
    converted some (Faulty f fs) k = tt
    converted some Unjudged k = absurd k
    converted some (Of rs) k =
        surely_unless (λ (qs : List Region). AllBelow g.regions.count qs) (all_convert g rs (some_types ts) vs) (if_all_known (all_known (some_types ts)) rs)
        (λ none. subst (λ b. Surely (λ (qs : List Region). AllBelow g.regions.count qs) (if_all_known b rs)) (sym (all_are_known ts)) k)

    by : (b : Bool) → Surely (λ (rs : List Region). AllBelow g.regions.count rs) (arguments_counted b g at n (some_types ts) vs)
    by true = converted (fixed_known g.enclosing at fits 0 n) (fixed_from g.enclosing at fits 0 n) fixed
    by false = tt

-- ---- what a call gives

-- a value that is no place
pub record IsGoodResult (count : ℕ) (v : Value) : Type 0 where
  pub type : IsValueType v.type
  pub below : TypeBelow count v.type
  pub nowhere : v.seat ≡ Nowhere

pub plain_value : (t : StaticType) → IsPlain t → IsValueType t
plain_value Int h = tt
plain_value Unsigned h = tt
plain_value Char h = tt
plain_value Void h = tt
plain_value Null h = tt
plain_value (Thin n r t) h = h
plain_value (Fat r t) h = h
plain_value (Unique n t) h = h
plain_value (Handle r) h = tt
plain_value (Key r) h = tt
plain_value (Struct tag rs) h = h
plain_value (Union tag rs) h = h

-- the functions that every program has take integers
builtins_are : (n : ℕ) → some_types (replicate n Int) ≡ builtin_parameters n
builtins_are zero = refl
builtins_are (suc n) = ap (λ (ps : List (Option StaticType)). Some Int ∷ ps) (builtins_are n)

builtins_objects : (n : ℕ) → AreObjects (replicate n Int)
builtins_objects zero = tt
builtins_objects (suc n) = (tt, builtins_objects n)

-- the result's type speaks of regions where the call is
result_judged : (count at : ℕ) (rs : List Region) (t : StaticType) → IsPlain t → AllBelow count rs
    → Surely (λ v. IsGoodResult count v) (typed_result at rs (Some t))
result_judged count at rs t p h = record {
  type = plain_value (renamed (argument rs) t) (plain_renamed (argument rs) t p);
  below = plain_below count rs t p h;
  nowhere = refl;
}

pub called_judged : (g : Env) (at : ℕ) (u : Target) (vs : List Value) → IsAround g.regions.count g.enclosing → IsGoodTarget u
    → ValuesBelow g.regions.count vs → Surely (λ v. IsGoodResult g.regions.count v) (called g at u vs)
called_judged g at (ToStruct t) vs e h below =
    surely_after (λ (rs : List Region). AllBelow g.regions.count rs) (λ v. IsGoodResult g.regions.count v)
    (arguments_fit g at t.regions (part_types t.parts) vs) (λ rs. value at (Struct t.text rs))
    (subst (λ (ps : List (Option StaticType)). Surely (λ (rs : List Region). AllBelow g.regions.count rs) (arguments_fit g at t.regions ps vs))
    (sym h.parts) (arguments_judged g at t.regions h.types vs e h.objects below))
    (λ rs k. record { type = tt; below = k; nowhere = refl })
called_judged g at (ToBuiltin n) vs e h below =
    surely_after (λ (rs : List Region). AllBelow g.regions.count rs) (λ v. IsGoodResult g.regions.count v) (arguments_fit g at 0 (builtin_parameters n) vs)
    (λ rs. value at Int)
    (subst (λ (ps : List (Option StaticType)). Surely (λ (rs : List Region). AllBelow g.regions.count rs) (arguments_fit g at 0 ps vs)) (builtins_are n)
    (arguments_judged g at 0 (replicate n Int) vs e (builtins_objects n) below)) (λ rs k. record { type = tt; below = tt; nowhere = refl })
called_judged g at (ToFunction s) vs e h below =
    surely_after (λ (rs : List Region). AllBelow g.regions.count rs) (λ v. IsGoodResult g.regions.count v) (arguments_fit g at s.regions s.parameters vs)
    (call_entered g at s)
    (subst (λ (ps : List (Option StaticType)). Surely (λ (rs : List Region). AllBelow g.regions.count rs) (arguments_fit g at s.regions ps vs))
    (sym h.parameters) (arguments_judged g at s.regions h.types vs e h.objects below))
    (λ rs k. surely_unless (λ v. IsGoodResult g.regions.count v)
    (test (all_live g rs s.effect) effect_rule at ++ test (all_ordered g rs s.bounds) outlives_rule at) (typed_result at rs s.result)
    (λ none. subst (λ (t : Option StaticType). Surely (λ v. IsGoodResult g.regions.count v) (typed_result at rs t)) (sym h.result)
    (result_judged g.regions.count at rs h.gives h.plain k)))

-- ---- union values

-- a member of a union without fault, whose type is an object's
pub record IsGoodMember (tp : Tag × Part) : Type 0 where
  pub type : StaticType
  pub is : tp.1.type ≡ Some type
  pub object : IsObjectType type

member_found : (f : tree.Name) (t : Tag) (ps : List Part) (ts : List StaticType) → part_types ps ≡ map (λ t. Some t) ts → AreObjects ts
    → Surely (λ m. IsGoodMember m) (union_member f t (part_in ps f.text))
member_found f t [] ts e o = tt
member_found f t (p ∷ ps) [] e o = absurd cc
member_found f t (p ∷ ps) (u ∷ ts) e o =
    let a : p.type ≡ Some u = cc in
    let c : part_types ps ≡ map (λ t. Some t) ts = cc in
    by (bytes_eq p.name f.text) a (member_found f t ps ts c o.1)
  where
    by : (b : Bool) → p.type ≡ Some u → Surely (λ m. IsGoodMember m) (union_member f t (part_in ps f.text))
        → Surely (λ m. IsGoodMember m) (union_member f t (if b then Some p else part_in ps f.text))
    by true a others = record { type = u; is = a; object = o.0 }
    by false a others = others

pub union_judged : (count : ℕ) (tag f : tree.Name) (e : Option Entry) → MeansGood count e → Surely (λ m. IsGoodMember m) (union_tag tag f e)
union_judged count tag f None h = tt
union_judged count tag f (Some (OfTag t)) h = subst (λ b. Surely (λ m. IsGoodMember m) (if_sound b (if_union t.is_union tag f t))) (sym h.sound) (by t.is_union)
  where
    by : (b : Bool) → Surely (λ m. IsGoodMember m) (if_union b tag f t)
    by true = member_found f t t.parts h.types h.parts h.objects
    by false = tt
union_judged count tag f (Some (OfFunction s)) h = surely_other (λ m. IsGoodMember m) s.sound tag.at h.sound
union_judged count tag f (Some (OfBuiltin n)) h = tt
union_judged count tag f (Some (OfValue (Stored t r))) h = tt
union_judged count tag f (Some (OfValue (Arrayed t r))) h = tt
union_judged count tag f (Some (OfValue Counter)) h = tt
union_judged count tag f (Some (OfValue (Unknown true))) h = absurd h
union_judged count tag f (Some (OfValue (Unknown false))) h = absurd h
union_judged count tag f (Some OfOther) h = absurd h

pub union_made_judged : (g : Env) (at : ℕ) (tp : Tag × Part) (v : Value) → IsAround g.regions.count g.enclosing → IsGoodMember tp
    → ValuesBelow g.regions.count (v ∷ []) → Surely (λ w. IsGoodResult g.regions.count w) (union_made g at tp v)
union_made_judged g at (t, p) v e h below =
    surely_after (λ (rs : List Region). AllBelow g.regions.count rs) (λ w. IsGoodResult g.regions.count w)
    (arguments_fit g at t.regions (p.type ∷ []) (v ∷ [])) (λ rs. value at (Union t.text rs))
    (subst (λ (o : Option StaticType). Surely (λ (rs : List Region). AllBelow g.regions.count rs) (arguments_fit g at t.regions (o ∷ []) (v ∷ [])))
    (sym h.is) (arguments_judged g at t.regions (h.type ∷ []) (v ∷ []) e (h.object, tt) below))
    (λ rs k. record { type = tt; below = k; nowhere = refl })
