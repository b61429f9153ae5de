-- The head of a function in which the rules find no fault is the same without those on effects.
use Rattle.std.proofs.Common.{◌≡◌, ℕ, Bool, true, false, Option, Some, None, List, [], ◌∷◌, ◌++◌, refl, ap, ap₂, ◌∙◌}
use Rattle.std.specs.Prelude.{map, not}
use Rattle.cyc_tree.specs.Places.{region_place}
use Rattle.cyc_tree.specs.Tree as tree
use Rattle.source_typing.proofs.Inversion.{body_head_clean, both_none, none_of_both, own_is}
use Rattle.source_typing.specs.Faults.{own_after, test, type_rule}
use Rattle.source_typing.specs.Functions.{Head, Parameters, Variables, all_faults, body_faults, body_scope, bounds_of, effect_of}
use Rattle.source_typing.specs.Functions.{effect_region, end_reached, function_faults, function_scope, head_judged, head_of, if_no_key}
use Rattle.source_typing.specs.Functions.{key_regions, main_faults, read_parameters, result_type, used_region, variables}
use Rattle.source_typing.specs.Functions.{what_of_known, with_parameters}
use Rattle.source_typing.specs.Regions.{Region, is_among}
use Rattle.source_typing.specs.Scope.{Env, with_local}
use Rattle.source_typing.specs.Statements.{items_faults}
use Rattle.source_typing.specs.Tables.{Tables}
use Rattle.source_typing.specs.Tags.{repeated}
use Rattle.source_typing.specs.Types.{StaticType}
use Rattle.source_typing.specs.Verdicts.{Verdict, faults_of}
use Rattle.source_typing.specs.Written.{RegionNamed}
use Rattle.region_types.proofs.EasedDeclarations.{local_eased}
use Rattle.region_types.proofs.EasedPhrases.{Stays, eased, own_none, stays_after, stays_is, stays_same}
use Rattle.region_types.proofs.EasedStatements.{items_clean}

-- ---- effects

key_stays : (b : Bool) (at : ℕ) (a : Region) → Stays (if_no_key b at a) (if_no_key true at a)
key_stays true at a = refl
key_stays false at a = tt

region_stays : (names : List RegionNamed) (keys : List Region) (r : tree.RegionName)
    → Stays (effect_region false names keys r) (effect_region true names keys r)
region_stays names keys r =
    stays_after (used_region names r) (used_region names r) (λ a. if_no_key (not (is_among keys a)) (region_place r) a)
    (λ a. if_no_key true (region_place r) a) (stays_same (used_region names r)) (λ a. key_stays (not (is_among keys a)) (region_place r) a)

regions_same : (names : List RegionNamed) (keys : List Region) (rs : List tree.RegionName) → all_faults (map (effect_region false names keys) rs) ≡ []
    → map (effect_region true names keys) rs ≡ map (effect_region false names keys) rs
regions_same names keys [] none = refl
regions_same names keys (r ∷ rs) none =
    let v = effect_region false names keys r in
    let all = none_of_both (faults_of v) (all_faults (map (effect_region false names keys) rs)) none in
    ap₂ (λ (a : Verdict Region) b. a ∷ b) (stays_is v (effect_region true names keys r) (region_stays names keys r) all.0) (regions_same names keys rs all.1)

pub effect_same : (vs : Variables) (keys : List Region) (e : Option (List tree.RegionName)) → all_faults (effect_of false vs keys e) ≡ []
    → effect_of true vs keys e ≡ effect_of false vs keys e
effect_same vs keys None none = refl
effect_same vs keys (Some rs) none = regions_same vs.names keys rs none

-- ---- heads

-- a head as it is read, by its parameters and its effect
abbrev with_effect : Tables → tree.Function → Parameters → List (Verdict Region) → Head
with_effect g f ps effect = head_judged f (record {
  variables = ps.variables_after;
  parameters = ps.types;
  result = result_type g ps.variables_after.names f.result;
  effect = effect;
  bounds = bounds_of ps.variables_after.names f.bounds;
})

pub head_eased : (g : Tables) (f : tree.Function) (ps : Parameters)
    → all_faults (effect_of false ps.variables_after (key_regions ps.types) f.effect) ≡ []
    → with_effect g f ps (effect_of true ps.variables_after (key_regions ps.types) f.effect)
    ≡ with_effect g f ps (effect_of false ps.variables_after (key_regions ps.types) f.effect)
head_eased g f ps none = ap (with_effect g f ps) (effect_same ps.variables_after (key_regions ps.types) f.effect none)

-- the parameters of a head
abbrev pub parameters_in : Tables → tree.Function → Parameters
parameters_in g f = read_parameters g (variables [] 0) f.parameters

-- no region name of the effect has a fault
abbrev pub HasCleanEffect : tree.Function → Parameters → Type 0
HasCleanEffect f ps = all_faults (effect_of false ps.variables_after (key_regions ps.types) f.effect) ≡ []

pub effect_clean : (g : Tables) (f : tree.Function) → (head_of false g f).faults ≡ [] → HasCleanEffect f (parameters_in g f)
effect_clean g f none =
    let ps = parameters_in g f in
    let names = ps.variables_after.names in
    let result = result_type g names f.result in
    let effect = all_faults (effect_of false ps.variables_after (key_regions ps.types) f.effect) in
    let bounds = all_faults (bounds_of names f.bounds) in
    let before = all_faults ps.types ++ repeated [] f.parameters ++ faults_of result in
    let own = own_is (main_faults f result) (before ++ effect ++ bounds) none in
    (none_of_both before effect (none_of_both (before ++ effect) bounds own.1).0).1

pub head_same : (g : Tables) (f : tree.Function) → HasCleanEffect f (parameters_in g f) → head_of true g f ≡ head_of false g f
head_same g f none = head_eased g f (parameters_in g f) none

-- ---- bodies

parameters_eased : (ms : List tree.Member) (ts : List (Option StaticType)) (g : Env) → with_parameters ms ts (eased g) ≡ eased (with_parameters ms ts g)
parameters_eased [] ts g = refl
parameters_eased (m ∷ ms) [] g = refl
parameters_eased (m ∷ ms) (t ∷ ts) g =
    ap (with_parameters ms ts) (local_eased m.name (what_of_known g.frame t) g)
    ∙ parameters_eased ms ts (with_local m.name (what_of_known g.frame t) g)

body_eased : (g : Tables) (i : ℕ) (f : tree.Function) (h : Head) → body_scope true g i f h ≡ eased (body_scope false g i f h)
body_eased g i f h = parameters_eased f.parameters h.signature.parameters (function_scope false g i h)

body_clean : (g : Tables) (i : ℕ) (f : tree.Function) (h : Head) → body_faults false g i f h ≡ [] → body_faults true g i f h ≡ []
body_clean g i f h none =
    let end = test (not (end_reached f h)) type_rule f.end in
    let inner = items_faults (body_scope false g i f h) true f.body in
    let all = none_of_both h.faults (own_after end inner) none in
    let own = own_is end inner all.1 in
    let clean = ap (λ s. items_faults s true f.body) (body_eased g i f h) ∙ items_clean f.body (body_scope false g i f h) true own.1 in
    both_none h.faults (own_after end (items_faults (body_scope true g i f h) true f.body)) all.0
    (own_none end (items_faults (body_scope true g i f h) true f.body) own.0 clean)

pub function_clean : (g : Tables) (i : ℕ) (f : tree.Function) → function_faults false g i f ≡ [] → function_faults true g i f ≡ []
function_clean g i f none =
    ap (body_faults true g i f) (head_same g f (effect_clean g f (body_head_clean g i f none))) ∙ body_clean g i f (head_of false g f) none
