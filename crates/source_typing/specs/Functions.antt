-- Believed: the heads of functions: region variables, parameters, results, effects and bounds.
use Rattle.std.specs.Prelude.{Bool, List, None, Option, Some, bytes_eq, codes, false, map, not, suc, true, zero, ℕ, ◌&&◌, ◌||◌, if◌then◌else◌, [], ◌∷◌, ◌++◌}
use Rattle.cyc_tree.specs.Places.{region_place}
use Rattle.cyc_tree.specs.Tree.{TypeName}
use Rattle.source_typing.specs.Faults.{Fault, effect_rule, fault, is_clean, own_after, region_rule, test, type_rule}
use Rattle.source_typing.specs.Regions.{Level, Region, TheHeap, entry_regions, is_among}
use Rattle.source_typing.specs.Scope.{Env, at_item, block_entered, with_local}
use Rattle.source_typing.specs.Statements.{items_faults}
use Rattle.source_typing.specs.Tables.{Signature, Stored, Tables, Unknown, What}
use Rattle.source_typing.specs.Tags.{repeated, settled_alone}
use Rattle.source_typing.specs.Types.{Int, Key, StaticType, is_scalar, is_union, is_void}
use Rattle.source_typing.specs.Verdicts.{Of, Verdict, after, both, faults_of, if_fits, known, refuse}
use Rattle.source_typing.specs.Ways.{ways_of_items}
use Rattle.source_typing.specs.Written.{Found, Is, IsUnique, Missing, RegionNamed, Spot, find_region, spots_of, written, written_with}
use Rattle.cyc_tree.specs.Tree as tree

-- the region variables so far
pub record Variables : Type 0 where
  pub names : List RegionNamed
  pub count : ℕ

abbrev pub variables : List RegionNamed → ℕ → Variables
variables names count = record { names = names; count = count }

-- ---- the regions of a parameter's type

-- one region: a missing one, and the first of a name, is a fresh variable
pub record Spotted : Type 0 where
  pub found : Found
  pub faults : List Fault
  pub after_it : Variables

abbrev pub spotted : Found → List Fault → Variables → Spotted
spotted f bad vs = record { found = f; faults = bad; after_it = vs }

abbrev pub take_named : Variables → tree.Name → Option Region → Spotted
take_named vs n (Some r) = spotted (Is r) [] vs
take_named vs n None = spotted (Is (Level vs.count)) [] (variables (record { name = n.text; id = Level vs.count } ∷ vs.names) (suc vs.count))

abbrev pub take_spot : Variables → Option tree.RegionName → Bool → Spotted
take_spot vs None p = spotted (Is (Level vs.count)) [] (variables vs.names (suc vs.count))
take_spot vs (Some (tree.Heap at)) p = spotted (Is TheHeap) [] vs
take_spot vs (Some (tree.Unique at)) true = spotted IsUnique [] vs
take_spot vs (Some (tree.Unique at)) false = spotted Missing (fault region_rule at ∷ []) vs
take_spot vs (Some (tree.Named n)) p = take_named vs n (find_region vs.names n.text)

-- all of them, in the order of the text
pub record AllSpotted : Type 0 where
  pub found : List Found
  pub faults : List Fault
  pub after_all : Variables

abbrev pub and_spotted : Spotted → AllSpotted → AllSpotted
and_spotted s rest = record { found = s.found ∷ rest.found; faults = s.faults ++ rest.faults; after_all = rest.after_all }

abbrev pub take_spots : Variables → List Spot → AllSpotted
take_spots vs [] = record { found = []; faults = []; after_all = vs }
take_spots vs (s ∷ ss) = and_spotted (take_spot vs s.written s.of_pointer) (take_spots (take_spot vs s.written s.of_pointer).after_it ss)

-- ---- parameters and results

-- Parameters and results are scalars other than unions, else Type at the type.
abbrev pub fits_parameter : StaticType → Bool
fits_parameter t = is_scalar t && not (is_union t)

abbrev pub if_parameter : ℕ → StaticType → Verdict StaticType
if_parameter at t = if_fits (fits_parameter t) at t

abbrev pub parameter_type : Tables → TypeName → AllSpotted → Verdict StaticType
parameter_type g t s = after (after (written_with g t (s.found, s.faults)) (settled_alone t.at)) (if_parameter t.at)

pub record Parameters : Type 0 where
  pub types : List (Verdict StaticType)
  pub variables_after : Variables

abbrev pub and_parameter : Verdict StaticType → Parameters → Parameters
and_parameter t ps = record { types = t ∷ ps.types; variables_after = ps.variables_after }

abbrev pub read_parameters : Tables → Variables → List tree.Member → Parameters
read_parameters g vs [] = record { types = []; variables_after = vs }
read_parameters g vs (m ∷ ms) =
    and_parameter (parameter_type g m.of (take_spots vs (spots_of g m.of))) (read_parameters g (take_spots vs (spots_of g m.of)).after_all ms)

abbrev pub all_faults : {A : Type 0} → List (Verdict A) → List Fault
all_faults [] = []
all_faults (v ∷ vs) = faults_of v ++ all_faults vs

-- `void` stands as a result alone.
abbrev pub if_result : ℕ → StaticType → Verdict StaticType
if_result at t = if_fits (is_void t || fits_parameter t) at t

abbrev pub result_type : Tables → List RegionNamed → TypeName → Verdict StaticType
result_type g names t = after (after (written g names t) (settled_alone t.at)) (if_result t.at)

-- ---- effects and bounds

abbrev pub key_regions : List (Verdict StaticType) → List Region
key_regions [] = []
key_regions (Of (Key r) ∷ vs) = r ∷ key_regions vs
key_regions (v ∷ vs) = key_regions vs

-- A region name of an effect or a bound: a region variable that occurs in no parameter, and the unique region, is Region at the name.
abbrev pub used_named : ℕ → Option Region → Verdict Region
used_named at (Some r) = Of r
used_named at None = refuse region_rule at

abbrev pub used_region : List RegionNamed → tree.RegionName → Verdict Region
used_region names (tree.Heap at) = Of TheHeap
used_region names (tree.Unique at) = refuse region_rule at
used_region names (tree.Named n) = used_named n.at (find_region names n.text)

-- An effect that names the region of a key parameter is Effect at that name; this is a rule on effects, which the judgement without liveness leaves out.
abbrev pub if_no_key : Bool → ℕ → Region → Verdict Region
if_no_key true at r = Of r
if_no_key false at r = refuse effect_rule at

abbrev pub effect_region : Bool → List RegionNamed → List Region → tree.RegionName → Verdict Region
effect_region lenient names keys r = after (used_region names r) (λ a. if_no_key (lenient || not (is_among keys a)) (region_place r) a)

abbrev pub and_known : {A : Type 0} → Verdict A → List A → List A
and_known (Of a) others = a ∷ others
and_known v others = others

abbrev pub all_of : {A : Type 0} → List (Verdict A) → List A
all_of [] = []
all_of (v ∷ vs) = and_known v (all_of vs)

-- all variables but those of keys
abbrev pub levels_but : List Region → ℕ → List Region
levels_but keys zero = []
levels_but keys (suc n) = (if is_among keys (Level n) then levels_but keys n else Level n ∷ levels_but keys n)

-- A function's effect is all its region variables but those that a key parameter names, unless it is written.
abbrev pub effect_of : Bool → Variables → List Region → Option (List tree.RegionName) → List (Verdict Region)
effect_of lenient vs keys None = map (λ r. Of r) (levels_but keys vs.count)
effect_of lenient vs keys (Some rs) = map (effect_region lenient vs.names keys) rs

abbrev pub pair_of : Region → Region → Verdict (Region × Region)
pair_of a b = Of (a, b)

abbrev pub bounds_of : List RegionNamed → List tree.Bound → List (Verdict (Region × Region))
bounds_of names bs = map (λ b. both (used_region names b.longer) (used_region names b.shorter) pair_of) bs

-- ---- heads

-- what a head says, its region names and its faults
pub record Head : Type 0 where
  pub signature : Signature
  pub names : List RegionNamed
  pub faults : List Fault

abbrev pub is_main : tree.Function → Bool
is_main f = bytes_eq f.name.text (codes "main")

-- `main` is `int main()`, else Type at `main`; its form is judged only where its head has no other fault.
abbrev pub main_form : Verdict StaticType → List tree.Member → Bool
main_form (Of Int) [] = true
main_form r ms = false

abbrev pub main_faults : tree.Function → Verdict StaticType → List Fault
main_faults f r = test (not (is_main f) || main_form r f.parameters) type_rule f.name.at

-- what is read of a head before its own faults are known
pub record Reading : Type 0 where
  pub variables : Variables
  pub parameters : List (Verdict StaticType)
  pub result : Verdict StaticType
  pub effect : List (Verdict Region)
  pub bounds : List (Verdict (Region × Region))

abbrev pub reading_faults : tree.Function → Reading → List Fault
reading_faults f r =
    own_after (main_faults f r.result)
    (all_faults r.parameters ++ repeated [] f.parameters ++ faults_of r.result ++ all_faults r.effect ++ all_faults r.bounds)

abbrev pub signature_with : Reading → List Fault → Signature
signature_with r fs = record {
  regions = r.variables.count;
  parameters = map known r.parameters;
  result = known r.result;
  effect = all_of r.effect;
  bounds = all_of r.bounds;
  sound = is_clean fs;
}

abbrev pub head_judged : tree.Function → Reading → Head
head_judged f r =
    record { signature = signature_with r (reading_faults f r); names = r.variables.names; faults = reading_faults f r }

abbrev pub head_after : Bool → Tables → tree.Function → Parameters → Head
head_after lenient g f ps = head_judged f (record {
  variables = ps.variables_after;
  parameters = ps.types;
  result = result_type g ps.variables_after.names f.result;
  effect = effect_of lenient ps.variables_after (key_regions ps.types) f.effect;
  bounds = bounds_of ps.variables_after.names f.bounds;
})

abbrev pub head_of : Bool → Tables → tree.Function → Head
head_of lenient g f = head_after lenient g f (read_parameters g (variables [] 0) f.parameters)

-- ---- the body

abbrev pub function_scope : Bool → Tables → ℕ → Head → Env
function_scope lenient g i h = block_entered (record (at_item lenient g i) {
  names = h.names;
  regions = entry_regions h.signature.regions h.signature.effect h.signature.bounds;
  result = h.signature.result;
})

abbrev pub what_of_known : Region → Option StaticType → What
what_of_known r None = Unknown true
what_of_known r (Some t) = Stored t r

-- parameters live in the body's block
abbrev pub with_parameters : List tree.Member → List (Option StaticType) → Env → Env
with_parameters (m ∷ ms) (t ∷ ts) g = with_parameters ms ts (with_local m.name (what_of_known g.frame t) g)
with_parameters ms ts g = g

abbrev pub body_scope : Bool → Tables → ℕ → tree.Function → Head → Env
body_scope lenient g i f h = with_parameters f.parameters h.signature.parameters (function_scope lenient g i h)

abbrev pub needs_return : Option StaticType → Bool
needs_return None = false
needs_return (Some t) = not (is_void t)

-- The end of a function with a result isn't reachable, `main` apart; else Type at the closing brace.
abbrev pub end_reached : tree.Function → Head → Bool
end_reached f h = h.signature.sound && (ways_of_items f.body).falls && needs_return h.signature.result && not (is_main f)

abbrev pub body_faults : Bool → Tables → ℕ → tree.Function → Head → List Fault
body_faults lenient g i f h =
    h.faults ++ own_after (test (not (end_reached f h)) type_rule f.end) (items_faults (body_scope lenient g i f h) true f.body)

abbrev pub function_faults : Bool → Tables → ℕ → tree.Function → List Fault
function_faults lenient g i f = body_faults lenient g i f (head_of lenient g f)
