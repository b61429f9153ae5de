-- What no fault says of calls and makings.
use Rattle.std.proofs.Common.{◌≡◌, ℕ, Bool, true, false, Option, Some, None, List, [], ◌∷◌, refl, sym, ap, subst}
use Rattle.std.specs.Prelude.{nat_eq, length, ◌++◌}
use Rattle.std.proofs.lemmas.Bool.{false≢true}
use Rattle.source_typing.specs.Faults.{Fault, test, effect_rule, outlives_rule}
use Rattle.source_typing.specs.Verdicts.{Verdict, Faulty, Unjudged, Of, unless_faulty}
use Rattle.source_typing.specs.Regions.{Region}
use Rattle.source_typing.specs.Types.{StaticType, renamed}
use Rattle.source_typing.specs.Tables.{Signature, Tag, argument}
use Rattle.source_typing.specs.Scope.{Env, Value}
use Rattle.source_typing.specs.Conversions.{conversion, converts}
use Rattle.source_typing.specs.Converts.{Converts}
use Rattle.source_typing.specs.Fixing.{fixed_from, fixed_known, all_fits}
use Rattle.source_typing.specs.Calls.{all_convert, partly_convert, all_known, if_all_known, arguments_converted, arguments_counted, arguments_fit, all_live}
use Rattle.source_typing.specs.Calls.{Target, ToFunction, ToStruct, all_ordered, call_entered, target_of_tag, typed_result}
use Rattle.source_typing.specs.Written.{if_sound}
use Rattle.source_typing.proofs.Inversion.{of_is, unless_is, test_is, none_of_both}
use Rattle.source_typing.proofs.Converting.{conversion_is, broken_is}
use Rattle.source_typing.proofs.OperatorsFit.{value_is}

-- ---- effects and bounds

result_is : (at : ℕ) (rs : List Region) (t : Option StaticType) (w : Value) → typed_result at rs t ≡ Of w
    → (u : StaticType) × (t ≡ Some u) × (w.type ≡ renamed (argument rs) u)
result_is at rs None w e = absurd cc
result_is at rs (Some t) w e = (t, refl, value_is at (renamed (argument rs) t) w e)

-- what a call without fault shows: its effect is live, its bounds are in order, and its result's type is known
pub record Entered (g : Env) (s : Signature) (rs : List Region) (w : Value) : Type 0 where
  pub live : all_live g rs s.effect ≡ true
  pub in_order : all_ordered g rs s.bounds ≡ true
  pub result : StaticType
  pub has : s.result ≡ Some result
  pub is : w.type ≡ renamed (argument rs) result

pub entered_is : (g : Env) (at : ℕ) (s : Signature) (rs : List Region) (w : Value) → call_entered g at s rs ≡ Of w → Entered g s rs w
entered_is g at s rs w e = by_tests (unless_is (effects ++ bounds) (typed_result at rs s.result) w e)
  where
    effects : List Fault
    effects = test (all_live g rs s.effect) effect_rule at

    bounds : List Fault
    bounds = test (all_ordered g rs s.bounds) outlives_rule at

    by_tests : (effects ++ bounds ≡ []) × (typed_result at rs s.result ≡ Of w) → Entered g s rs w
    by_tests (z, v) =
        let x : (effects ≡ []) × (bounds ≡ []) = none_of_both effects bounds z in
        let y : (u : StaticType) × (s.result ≡ Some u) × (w.type ≡ renamed (argument rs) u) = result_is at rs s.result w v in
        record {
          live = test_is (all_live g rs s.effect) effect_rule at x.0;
          in_order = test_is (all_ordered g rs s.bounds) outlives_rule at x.1;
          result = y.0;
          has = y.1;
          is = y.2;
        }

-- ---- arguments

-- each argument converts to its parameter's type, where the region variables stand for these
abbrev pub AllConvert : Env → List Region → List (Option StaticType) → List Value → Type 0
AllConvert g rs (Some p ∷ ps) (v ∷ vs) = Converts g.regions v.type (renamed (argument rs) p) × AllConvert g rs ps vs
AllConvert g rs (None ∷ ps) (v ∷ vs) = AllConvert g rs ps vs
AllConvert g rs [] vs = Unit {0}
AllConvert g rs (p ∷ ps) [] = Unit {0}

all_convert_is : (g : Env) (rs : List Region) (ps : List (Option StaticType)) (vs : List Value) → all_convert g rs ps vs ≡ [] → AllConvert g rs ps vs
all_convert_is g rs (Some p ∷ ps) (v ∷ vs) e =
    let x : (converts g v (renamed (argument rs) p) ≡ []) × (all_convert g rs ps vs ≡ []) =
    none_of_both (converts g v (renamed (argument rs) p)) (all_convert g rs ps vs) e in (
      conversion_is g.regions v.type (renamed (argument rs) p) (broken_is v.at (conversion g.regions v.type (renamed (argument rs) p)) x.0),
      all_convert_is g rs ps vs x.1,
    )
all_convert_is g rs (None ∷ ps) (v ∷ vs) e = all_convert_is g rs ps vs e
all_convert_is g rs [] vs e = tt
all_convert_is g rs (Some p ∷ ps) [] e = tt
all_convert_is g rs (None ∷ ps) [] e = tt

known_is : (b : Bool) (rs qs : List Region) → if_all_known b rs ≡ Of qs → (b ≡ true) × (rs ≡ qs)
known_is true rs qs e = (refl, of_is rs qs e)
known_is false rs qs e = absurd cc

-- what the arguments of a call without fault show: as many as parameters, all of known types, each of which converts
pub record Arguments (g : Env) (ps : List (Option StaticType)) (vs : List Value) (fixed : Verdict (List Region)) (rs : List Region) : Type 0 where
  pub count : nat_eq (length ps) (length vs) ≡ true
  pub found : fixed ≡ Of rs
  pub typed : all_known ps ≡ true
  pub convert : AllConvert g rs ps vs

never_judged : (fs : List Fault) (rs : List Region) → unless_faulty fs Unjudged ≡ Of rs → ⊥
never_judged [] rs e = cc
never_judged (f ∷ fs) rs e = cc

converted_is : (g : Env) (some : List (Option Region)) (ps : List (Option StaticType)) (vs : List Value) (v : Verdict (List Region)) (rs : List Region)
    → arguments_converted g some ps vs v ≡ Of rs → (v ≡ Of rs) × (all_known ps ≡ true) × AllConvert g rs ps vs
converted_is g some ps vs (Faulty f fs) rs e = absurd cc
converted_is g some ps vs Unjudged rs e = absurd (never_judged (partly_convert g some ps vs) rs e)
converted_is g some ps vs (Of qs) rs e =
    let x : (all_convert g qs ps vs ≡ []) × (if_all_known (all_known ps) qs ≡ Of rs) =
    unless_is (all_convert g qs ps vs) (if_all_known (all_known ps) qs) rs e in
    let y : (all_known ps ≡ true) × (qs ≡ rs) = known_is (all_known ps) qs rs x.1 in
    (ap (λ (z : List Region). Of z) y.1, y.0, subst (λ (z : List Region). AllConvert g z ps vs) y.1 (all_convert_is g qs ps vs x.0))

counted_is : (b : Bool) (g : Env) (at n : ℕ) (ps : List (Option StaticType)) (vs : List Value) (rs : List Region) → nat_eq (length ps) (length vs) ≡ b
    → arguments_counted b g at n ps vs ≡ Of rs → Arguments g ps vs (fixed_from g.enclosing at (all_fits ps vs) 0 n) rs
counted_is false g at n ps vs rs c e = absurd cc
counted_is true g at n ps vs rs c e =
    let x : (fixed_from g.enclosing at (all_fits ps vs) 0 n ≡ Of rs) × (all_known ps ≡ true) × AllConvert g rs ps vs =
    converted_is g (fixed_known g.enclosing at (all_fits ps vs) 0 n) ps vs (fixed_from g.enclosing at (all_fits ps vs) 0 n) rs e in
    record { count = c; found = x.0; typed = x.1; convert = x.2 }

pub arguments_are : (g : Env) (at n : ℕ) (ps : List (Option StaticType)) (vs : List Value) (rs : List Region) → arguments_fit g at n ps vs ≡ Of rs
    → Arguments g ps vs (fixed_from g.enclosing at (all_fits ps vs) 0 n) rs
arguments_are g at n ps vs rs e = counted_is (nat_eq (length ps) (length vs)) g at n ps vs rs refl e

-- ---- what is called

pub sound_is : (c : Bool) (s : Signature) (t : Target) → if_sound c (Of (ToFunction s)) ≡ Of t → t ≡ ToFunction s
sound_is true s t e = sym (of_is (ToFunction s) t e)
sound_is false s t e = absurd cc

pub struct_is : (c : Bool) (u : Tag) (at : ℕ) (t : Target) → c ≡ false → target_of_tag c u at ≡ Of t → t ≡ ToStruct u
struct_is true u at t z e = absurd (false≢true (sym z))
struct_is false u at t z e = by u.sound e
  where
    by : (b : Bool) → if_sound b (Of (ToStruct u)) ≡ Of t → t ≡ ToStruct u
    by true q = sym (of_is (ToStruct u) t q)
    by false q = absurd cc
