-- Calls all of whose arguments are `NULL`: what no argument fixes is one region.
use Rattle.std.specs.Prelude.{map, nat_eq, option_map, replicate, ◌&&◌, ◌++◌}
use Rattle.std.proofs.Common.{◌≡◌, ℕ, zero, suc, true, Option, Some, None, List, [], ◌∷◌, refl, sym, ◌∙◌, ap, arith, length, true≢false, drop, get_or, ◌+◌, ◌<◌}
use Rattle.std.proofs.Common.{◌≤◌}
use Rattle.std.proofs.lemmas.List.{drop_all}
use Rattle.source_typing.specs.Calls.{
  ToFunction,
  all_convert,
  all_known,
  all_live,
  all_ordered,
  arguments_converted,
  arguments_counted,
  arguments_fit,
  call_entered,
  called,
  if_all_known,
  typed_result,
}
use Rattle.source_typing.specs.Conversions.{broken, conversion, nullable}
use Rattle.source_typing.specs.Faults.{effect_rule, outlives_rule, test}
use Rattle.source_typing.specs.Fixing.{Fit, all_fits, first_fit, fits_of, fixed_from, fixed_known, fixed_one, more}
use Rattle.source_typing.specs.Regions.{Level, Region, TheHeap}
use Rattle.source_typing.specs.Scope.{Enclosing, Env, InRegion, InUnique, NotKnown, Value, is_live, value}
use Rattle.source_typing.specs.Tables.{Signature, argument}
use Rattle.source_typing.specs.Types.{Char, Fat, Handle, Int, Key, Null, StaticType, Struct, Thin, Union, Unique, Unsigned, Void, is_null, renamed}
use Rattle.source_typing.specs.Verdicts.{Of, after, both, unless_faulty}
use Rattle.std.proofs.Common.{subst}
use Rattle.std.proofs.lemmas.Bool.Decides.{nat_tests}
use Rattle.cyc_types.specs.Layers.{layer_begins, pointer_to}
use Rattle.cyc_types.specs.Types.{static_type}
use Rattle.cyc_types.specs.declared.layer.Layer.{Layer}
use Rattle.cyc_types.specs.declared.layer.Layer.TheVariants as layer
use Rattle.cyc_types.specs.declared.ctype.CType.{CType}
use Rattle.check_operators.specs.Values.{value_of}
use Rattle.check_operators.specs.declared.value.Value as code
use Rattle.check_regions.specs.Once.{HaveSame}
use Rattle.check_calls.specs.Fitted.{parameter_types}
use Rattle.check_calls.specs.Fixings.{first_fixing, of_fit, or_else}
use Rattle.check_calls.specs.Nulls.{AreNulls, IsLiveAround, is_null_to, takes_null}
use Rattle.source_typing.proofs.OperatorsFit.{null_is}
use Rattle.check_calls.proofs.Entering.{once_ordered}
use Rattle.check_calls.proofs.Fixes.{first_both}
use Rattle.check_calls.proofs.Places.{none_of}

-- ---- the arguments in code

nulls_here : (i : ℕ) (ps : List (Option CType)) (vs : List code.Value) (d : Option CType) (e : code.Value) → i < length ps → i < length vs
    → is_null_to (get_or ps i d, get_or vs i e) ≡ true → AreNulls (parameter_types (drop (suc i) ps)) (map value_of (drop (suc i) vs))
    → AreNulls (parameter_types (drop i ps)) (map value_of (drop i vs))
nulls_here i [] vs d e h k t rest = absurd (omega (arith, h))
nulls_here i (p ∷ ps) [] d e h k t rest = absurd (omega (arith, k))
nulls_here zero (p ∷ ps) (v ∷ vs) d e h k t rest =
    let null : is_null (static_type v.of) ≡ true = grind (arith, t) in
    let takes : takes_null (option_map static_type p) ≡ true = grind (arith, t) in
    (takes, (null_is (static_type v.of) null, rest))
nulls_here (suc i) (p ∷ ps) (v ∷ vs) d e h k t rest = nulls_here i ps vs d e (omega (arith, h)) (omega (arith, k)) t rest

pub nulls_before : (i : ℕ) (ps : List (Option CType)) (vs : List code.Value) (d : Option CType) (e : code.Value) → i < length ps → i < length vs
    → is_null_to (get_or ps i d, get_or vs i e) ≡ true → AreNulls (parameter_types (drop (i + 1) ps)) (map value_of (drop (i + 1) vs))
    → AreNulls (parameter_types (drop i ps)) (map value_of (drop i vs))
nulls_before i ps vs d e h k t rest =
    let same : i + 1 ≡ suc i = omega arith in
    nulls_here i ps vs d e h k t (subst (λ n. AreNulls (parameter_types (drop n ps)) (map value_of (drop n vs))) same rest)

pub nulls_behind : (i : ℕ) (ps : List (Option CType)) (vs : List code.Value) → length ps ≤ i → length vs ≤ i
    → AreNulls (parameter_types (drop i ps)) (map value_of (drop i vs))
nulls_behind i ps vs h k =
    subst (λ ls. AreNulls (parameter_types ls) (map value_of (drop i vs))) (sym (drop_all i ps h))
    (subst (λ ls. AreNulls [] (map value_of ls)) (sym (drop_all i vs k)) tt)

pub pointer_takes : (l : Layer) (t : StaticType) → layer_begins l ≡ takes_null (Some (pointer_to l t))
pointer_takes (layer.Thin n r) t = refl
pointer_takes (layer.Fat r) t = refl
pointer_takes (layer.Unique n) t = refl

-- ---- none of them fixes a variable

none_at : (at : ℕ) (p : StaticType) (k : ℕ) → takes_null (Some p) ≡ true → first_fixing (fits_of at p (Some Null)) k ≡ None
none_at at (Thin n r t) k h = none_of at (Thin n r t) k
none_at at (Fat r t) k h = none_of at (Fat r t) k
none_at at (Unique n t) k h = none_of at (Unique n t) k
none_at at Int k h = refl
none_at at Unsigned k h = refl
none_at at Char k h = refl
none_at at Void k h = refl
none_at at Null k h = refl
none_at at (Handle r) k h = refl
none_at at (Key r) k h = refl
none_at at (Struct tag rs) k h = absurd (true≢false (sym h))
none_at at (Union tag rs) k h = absurd (true≢false (sym h))

none_fixed : (ps : List (Option StaticType)) (vs : List Value) (k : ℕ) → AreNulls ps vs → first_fixing (all_fits ps vs) k ≡ None
none_fixed [] [] k h = refl
none_fixed [] (v ∷ vs) k h = absurd h
none_fixed (p ∷ ps) [] k h = absurd h
none_fixed (None ∷ ps) (v ∷ vs) k h = none_fixed ps vs k h.1.1
none_fixed (Some p ∷ ps) (v ∷ vs) k h =
    first_both (fits_of v.at p (Some v.type)) (all_fits ps vs) k
    ∙ ap (λ t. or_else (first_fixing (fits_of v.at p (Some t)) k) (first_fixing (all_fits ps vs) k)) h.1.0
    ∙ ap (λ o. or_else o (first_fixing (all_fits ps vs) k)) (none_at v.at p k h.0)
    ∙ none_fixed ps vs k h.1.1

none_fits : (o : Option Fit) → option_map of_fit o ≡ None → o ≡ None
none_fits None h = refl
none_fits (Some f) h = absurd cc

-- so each is the region around
one_region : (r : Region) (at : ℕ) (fs : List Fit) (k n : ℕ) → ((i : ℕ) → first_fixing fs i ≡ None)
    → fixed_from (InRegion r) at fs k n ≡ Of (replicate n r)
one_region r at fs k zero none = refl
one_region r at fs k (suc n) none =
    ap (λ o. both (fixed_one (InRegion r) at o) (fixed_from (InRegion r) at fs (suc k) n) more) (none_fits (first_fit fs k) (none k))
    ∙ ap (λ v. both (Of r) v more) (one_region r at fs (suc k) n none)

-- ---- what is asked of the call

module _ (g : Env) (r : Region) (live : is_live g r ≡ true) (heap : is_live g TheHeap ≡ true) where
  argument_live : (n k : ℕ) → is_live g (argument (replicate n r) (Level k)) ≡ true
  argument_live zero k = heap
  argument_live (suc n) zero = live
  argument_live (suc n) (suc k) = argument_live n k

  effect_live : (n : ℕ) (effect : List Region) → all_live g (replicate n r) effect ≡ true
  effect_live n [] = refl
  effect_live n (TheHeap ∷ effect) = ap (λ b. b && all_live g (replicate n r) effect) heap ∙ effect_live n effect
  effect_live n (Level k ∷ effect) = ap (λ b. b && all_live g (replicate n r) effect) (argument_live n k) ∙ effect_live n effect

nulls_convert_one : (g : Env) (at : ℕ) (f : Region → Region) (p : StaticType) → takes_null (Some p) ≡ true
    → broken at (conversion g.regions Null (renamed f p)) ≡ []
nulls_convert_one g at f (Thin n r t) h = ap (λ b. broken at (nullable b)) h
nulls_convert_one g at f (Fat r t) h = refl
nulls_convert_one g at f (Unique n t) h = ap (λ b. broken at (nullable b)) h
nulls_convert_one g at f Int h = absurd (true≢false (sym h))
nulls_convert_one g at f Unsigned h = absurd (true≢false (sym h))
nulls_convert_one g at f Char h = absurd (true≢false (sym h))
nulls_convert_one g at f Void h = absurd (true≢false (sym h))
nulls_convert_one g at f Null h = absurd (true≢false (sym h))
nulls_convert_one g at f (Handle r) h = absurd (true≢false (sym h))
nulls_convert_one g at f (Key r) h = absurd (true≢false (sym h))
nulls_convert_one g at f (Struct tag rs) h = absurd (true≢false (sym h))
nulls_convert_one g at f (Union tag rs) h = absurd (true≢false (sym h))

nulls_convert : (g : Env) (rs : List Region) (ps : List (Option StaticType)) (vs : List Value) → AreNulls ps vs → all_convert g rs ps vs ≡ []
nulls_convert g rs [] [] h = refl
nulls_convert g rs [] (v ∷ vs) h = absurd h
nulls_convert g rs (p ∷ ps) [] h = absurd h
nulls_convert g rs (None ∷ ps) (v ∷ vs) h = nulls_convert g rs ps vs h.1.1
nulls_convert g rs (Some p ∷ ps) (v ∷ vs) h =
    ap (λ t. broken v.at (conversion g.regions t (renamed (argument rs) p)) ++ all_convert g rs ps vs) h.1.0
    ∙ ap (λ fs. fs ++ all_convert g rs ps vs) (nulls_convert_one g v.at (argument rs) p h.0)
    ∙ nulls_convert g rs ps vs h.1.1

nulls_known : (ps : List (Option StaticType)) (vs : List Value) → AreNulls ps vs → all_known ps ≡ true
nulls_known [] [] h = refl
nulls_known [] (v ∷ vs) h = absurd h
nulls_known (p ∷ ps) [] h = absurd h
nulls_known (None ∷ ps) (v ∷ vs) h = absurd (true≢false (sym h.0))
nulls_known (Some p ∷ ps) (v ∷ vs) h = nulls_known ps vs h.1.1

nulls_long : (ps : List (Option StaticType)) (vs : List Value) → AreNulls ps vs → length ps ≡ length vs
nulls_long [] [] h = refl
nulls_long [] (v ∷ vs) h = absurd h
nulls_long (p ∷ ps) [] h = absurd h
nulls_long (p ∷ ps) (v ∷ vs) h = ap suc (nulls_long ps vs h.1.1)

nulls_counted : (ps : List (Option StaticType)) (vs : List Value) → AreNulls ps vs → nat_eq (length ps) (length vs) ≡ true
nulls_counted ps vs h = grind (arith, nat_tests, nulls_long ps vs h)

-- ---- the call

module _ (g : Env) (at n : ℕ) (ps : List (Option StaticType)) (vs : List Value) (nulls : AreNulls ps vs) where
  nulls_fit : (r : Region) → g.enclosing ≡ InRegion r → arguments_fit g at n ps vs ≡ Of (replicate n r)
  nulls_fit r around =
      ap (λ b. arguments_counted b g at n ps vs) (nulls_counted ps vs nulls)
      ∙ ap (λ h. arguments_converted g (fixed_known g.enclosing at (all_fits ps vs) 0 n) ps vs (fixed_from h at (all_fits ps vs) 0 n)) around
      ∙ ap (arguments_converted g (fixed_known g.enclosing at (all_fits ps vs) 0 n) ps vs)
      (one_region r at (all_fits ps vs) 0 n (λ k. none_fixed ps vs k nulls))
      ∙ ap (λ fs. unless_faulty fs (if_all_known (all_known ps) (replicate n r))) (nulls_convert g (replicate n r) ps vs nulls)
      ∙ ap (λ b. if_all_known b (replicate n r)) (nulls_known ps vs nulls)

pub null_call : (g : Env) (at : ℕ) (s : Signature) (vs : List Value) (t : StaticType) → IsLiveAround g g.enclosing → HaveSame [] s.bounds
    → AreNulls s.parameters vs → s.result ≡ Some t → ((rs : List Region) → renamed (argument rs) t ≡ t) → called g at (ToFunction s) vs ≡ value at t
null_call g at s vs t live free nulls e closed = by g.enclosing refl live
  where
    by : (h : Enclosing) → g.enclosing ≡ h → IsLiveAround g h → called g at (ToFunction s) vs ≡ value at t
    by InUnique around live = absurd live
    by NotKnown around live = absurd live
    by (InRegion r) around live =
        let rs = replicate s.regions r in
        ap (λ v. after v (call_entered g at s)) (nulls_fit g at s.regions s.parameters vs nulls r around)
        ∙ ap (λ b. unless_faulty (test b effect_rule at ++ test (all_ordered g rs s.bounds) outlives_rule at) (typed_result at rs s.result))
        (effect_live g r live.0 live.1 s.regions s.effect)
        ∙ ap (λ b. unless_faulty (test b outlives_rule at) (typed_result at rs s.result)) (sym (once_ordered g rs [] s.bounds free))
        ∙ ap (typed_result at rs) e
        ∙ ap (value at) (closed rs)
