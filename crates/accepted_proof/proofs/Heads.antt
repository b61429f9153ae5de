-- The head of a function without fault: it takes objects and gives one or nothing, its types, effect and bounds speak of its region variables and the heap
-- alone, and it is read alike by tables that have the same tags.
use Rattle.std.proofs.Common.{◌≡◌, ℕ, zero, suc, ◌<◌, ◌≤◌, Bool, true, false, Option, Some, None, List, [], ◌∷◌, refl, sym, subst, ap, ap₂, ◌∙◌, arith}
use Rattle.std.specs.Prelude.{◌||◌, ◌++◌, if◌then◌else◌, length, map, not}
use Rattle.cyc_tree.specs.Places.{region_place}
use Rattle.cyc_tree.specs.Tree as tree
use Rattle.source_meaning.specs.Shapes.{part_of, part_shapes}
use Rattle.source_meaning.specs.Shapes as shapes
use Rattle.type_proof.specs.Entries.{AreObjects}
use Rattle.source_typing.specs.Named.{AllBelow, Below, BoundsBelow, TypesBelow, NamesBelow}
use Rattle.source_typing.specs.Faults.{Fault, is_clean, type_rule}
use Rattle.source_typing.specs.Functions.{AllSpotted, Parameters, Reading, Variables, all_faults, all_of, and_known, bounds_of, effect_of, effect_region}
use Rattle.source_typing.specs.Functions.{head_after, if_no_key, pair_of, used_named, used_region, head_judged, head_of, if_result, is_main, key_regions}
use Rattle.source_typing.specs.Functions.{levels_but, main_faults, main_form, parameter_type, read_parameters, result_type, take_spots, variables}
use Rattle.source_typing.specs.Regions.{Level, Region, is_among}
use Rattle.source_typing.specs.Tables.{Tables}
use Rattle.source_typing.specs.Tags.{repeated, settled_alone}
use Rattle.source_typing.specs.Types.{Int, PartialType, StaticType, shape_of}
use Rattle.source_typing.specs.Verdicts.{Faulty, Of, Unjudged, Verdict, after, both, faults_of, known}
use Rattle.source_typing.specs.Written.{RegionNamed, base_spots, find_region, spots_of}
use Rattle.source_typing.proofs.Inversion.{none_of_both, of_is, own_is, test_is}
use Rattle.source_typing.proofs.SameTags.{SameTags, parameters_same, written_same}
use Rattle.accepted_proof.specs.Good.{IsGoodSignature}
use Rattle.accepted_proof.proofs.HeadTypes.{PlainGood, ResultGood, SpotsGood, ObjectGood, parameter_good, result_facts, result_good, find_below}
use Rattle.accepted_proof.proofs.HeadTypes.{type_spots_good, object_more}
use Rattle.accepted_proof.proofs.good.Pointers.{RegionBelow}
use Rattle.accepted_proof.proofs.good.Types.{KnowsTags}
use Rattle.accepted_proof.proofs.Sure.{surely_is}

-- ---- the faults of a head

pub record HeadClean (g : Tables) (f : tree.Function) (ps : Parameters) (r : Verdict StaticType) : Type 0 where
  pub main : main_faults f r ≡ []
  pub parameters : all_faults ps.types ≡ []
  pub once : repeated [] f.parameters ≡ []
  pub result : faults_of r ≡ []

pub head_clean : (g : Tables) (f : tree.Function) → (head_of false g f).faults ≡ []
    → HeadClean g f (read_parameters g (variables [] 0) f.parameters)
    (result_type g (read_parameters g (variables [] 0) f.parameters).variables_after.names f.result)
head_clean g f p =
    let ps : Parameters = read_parameters g (variables [] 0) f.parameters in
    let r : Verdict StaticType = result_type g ps.variables_after.names f.result in
    let es : List Fault = all_faults (effect_of false ps.variables_after (key_regions ps.types) f.effect) in
    let bs : List Fault = all_faults (bounds_of ps.variables_after.names f.bounds) in
    let o : (main_faults f r ≡ []) × ((((all_faults ps.types ++ repeated [] f.parameters) ++ faults_of r) ++ es) ++ bs ≡ []) =
    own_is (main_faults f r) ((((all_faults ps.types ++ repeated [] f.parameters) ++ faults_of r) ++ es) ++ bs) p in
    let q1 : ((all_faults ps.types ++ repeated [] f.parameters) ++ faults_of r) ++ es ≡ [] =
    (none_of_both (((all_faults ps.types ++ repeated [] f.parameters) ++ faults_of r) ++ es) bs o.1).0 in
    let q2 : (all_faults ps.types ++ repeated [] f.parameters) ++ faults_of r ≡ [] =
    (none_of_both ((all_faults ps.types ++ repeated [] f.parameters) ++ faults_of r) es q1).0 in
    let q3 : (all_faults ps.types ++ repeated [] f.parameters ≡ []) × (faults_of r ≡ []) =
    none_of_both (all_faults ps.types ++ repeated [] f.parameters) (faults_of r) q2 in
    let q4 : (all_faults ps.types ≡ []) × (repeated [] f.parameters ≡ []) = none_of_both (all_faults ps.types) (repeated [] f.parameters) q3.0 in
    record { main = o.0; parameters = q4.0; once = q4.1; result = q3.1 }

-- ---- parameters

pub record ParametersGood (vs : Variables) (ms : List tree.Member) (ps : Parameters) : Type 0 where
  pub types : List StaticType
  pub known : map known ps.types ≡ map (λ t. Some t) types
  pub objects : AreObjects types
  pub below : TypesBelow ps.variables_after.count types
  pub shapes : part_shapes (map part_of ms) ≡ map shape_of types
  pub names : NamesBelow ps.variables_after.count ps.variables_after.names
  pub more : vs.count ≤ ps.variables_after.count

parameters_good : (g : Tables) (vs : Variables) (ms : List tree.Member) → KnowsTags g → NamesBelow vs.count vs.names
    → all_faults (read_parameters g vs ms).types ≡ []
    → ParametersGood vs ms (read_parameters g vs ms)
parameters_good g vs [] tags h p =
    record { types = []; known = refl; objects = tt; below = tt; shapes = refl; names = h; more = omega arith }
parameters_good g vs (m ∷ ms) tags h p =
    let s : AllSpotted = take_spots vs (spots_of g m.of) in
    let v : Verdict StaticType = parameter_type g m.of s in
    let z : (faults_of v ≡ []) × (all_faults (read_parameters g s.after_all ms).types ≡ []) =
    none_of_both (faults_of v) (all_faults (read_parameters g s.after_all ms).types) p in
    let k : SpotsGood vs (length (base_spots g m.of.base)) m.of.pointers s = type_spots_good g vs m.of h in
    let first : (u : StaticType) × (v ≡ Of u) × ObjectGood s.after_all.count m.of u =
    surely_is (λ u. ObjectGood s.after_all.count m.of u) v (parameter_good g vs m.of tags h) z.0 in
    let rest : ParametersGood s.after_all ms (read_parameters g s.after_all ms) = parameters_good g s.after_all ms tags k.names z.1 in
    let n : ℕ = (read_parameters g s.after_all ms).variables_after.count in
    let a : vs.count ≤ s.after_all.count = k.more in
    let b : s.after_all.count ≤ n = rest.more in
    record {
      types = first.0 ∷ rest.types;
      known = ap₂ (λ (o : Option StaticType) (os : List (Option StaticType)). o ∷ os) (ap (λ (w : Verdict StaticType). known w) first.1) rest.known;
      objects = (first.2.object, rest.objects);
      below = (object_more s.after_all.count n first.0 b first.2.object first.2.below, rest.below);
      shapes = ap₂ (λ (x : shapes.Shape) (xs : List shapes.Shape). x ∷ xs) first.2.shape rest.shapes;
      names = rest.names;
      more = omega (arith, a, b);
    }

-- ---- effects and `main`

levels_below : (ks : List Region) (n m : ℕ) → n ≤ m → AllBelow m (levels_but ks n)
levels_below ks zero m l = tt
levels_below ks (suc n) m l =
    let less : n ≤ m = omega arith in
    let last : n < m = omega arith in
    by (is_among ks (Level n)) last (levels_below ks n m less)
  where
    by : (b : Bool) → n < m → AllBelow m (levels_but ks n) → AllBelow m (if b then levels_but ks n else Level n ∷ levels_but ks n)
    by true last others = others
    by false last others = (last, others)

all_judged : (rs : List Region) → all_of (map (λ (r : Region). Of r) rs) ≡ rs
all_judged [] = refl
all_judged (r ∷ rs) = ap (λ (qs : List Region). r ∷ qs) (all_judged rs)

-- a region that is known
abbrev IfBelow : ℕ → Verdict Region → Type 0
IfBelow n (Of r) = Below n r
IfBelow n (Faulty f fs) = Unit {0}
IfBelow n Unjudged = Unit {0}

used_below : (n : ℕ) (names : List RegionNamed) (r : tree.RegionName) → NamesBelow n names → IfBelow n (used_region names r)
used_below n names (tree.Heap at) h = tt
used_below n names (tree.Unique at) h = tt
used_below n names (tree.Named x) h = by (find_region names x.text) (find_below n names x.text h)
  where
    by : (o : Option Region) → RegionBelow n o → IfBelow n (used_named x.at o)
    by None k = tt
    by (Some r) k = k

no_key_below : (n : ℕ) (v : Verdict Region) (fits : Region → Bool) (at : ℕ) → IfBelow n v → IfBelow n (after v (λ a. if_no_key (fits a) at a))
no_key_below n (Faulty f fs) fits at h = tt
no_key_below n Unjudged fits at h = tt
no_key_below n (Of a) fits at h = by (fits a)
  where
    by : (b : Bool) → IfBelow n (if_no_key b at a)
    by true = h
    by false = tt

known_below : (n : ℕ) (v : Verdict Region) (others : List Region) → IfBelow n v → AllBelow n others → AllBelow n (and_known v others)
known_below n (Of r) others h k = (h, k)
known_below n (Faulty f fs) others h k = k
known_below n Unjudged others h k = k

written_below : (n : ℕ) (names : List RegionNamed) (ks : List Region) (rs : List tree.RegionName) → NamesBelow n names
    → AllBelow n (all_of (map (effect_region false names ks) rs))
written_below n names ks [] h = tt
written_below n names ks (r ∷ rs) h =
    known_below n (effect_region false names ks r) (all_of (map (effect_region false names ks) rs))
    (no_key_below n (used_region names r) (λ a. not (is_among ks a)) (region_place r) (used_below n names r h)) (written_below n names ks rs h)

effect_below : (vs : Variables) (ks : List Region) (e : Option (List tree.RegionName)) → NamesBelow vs.count vs.names
    → AllBelow vs.count (all_of (effect_of false vs ks e))
effect_below vs ks None h =
    subst (λ (rs : List Region). AllBelow vs.count rs) (sym (all_judged (levels_but ks vs.count))) (levels_below ks vs.count vs.count (omega arith))
effect_below vs ks (Some rs) h = written_below vs.count vs.names ks rs h

pair_below : (n : ℕ) (v w : Verdict Region) (others : List (Region × Region)) → IfBelow n v → IfBelow n w → BoundsBelow n others
    → BoundsBelow n (and_known (both v w pair_of) others)
pair_below n (Of a) (Of b) others h k o = (h, k, o)
pair_below n (Of a) (Faulty f fs) others h k o = o
pair_below n (Of a) Unjudged others h k o = o
pair_below n (Faulty f fs) (Of b) others h k o = o
pair_below n (Faulty f fs) (Faulty c cs) others h k o = o
pair_below n (Faulty f fs) Unjudged others h k o = o
pair_below n Unjudged (Of b) others h k o = o
pair_below n Unjudged (Faulty c cs) others h k o = o
pair_below n Unjudged Unjudged others h k o = o

bounds_below : (n : ℕ) (names : List RegionNamed) (bs : List tree.Bound) → NamesBelow n names → BoundsBelow n (all_of (bounds_of names bs))
bounds_below n names [] h = tt
bounds_below n names (b ∷ bs) h =
    pair_below n (used_region names b.longer) (used_region names b.shorter) (all_of (bounds_of names bs)) (used_below n names b.longer h)
    (used_below n names b.shorter h) (bounds_below n names bs h)

main_formed : (v : Verdict StaticType) (ms : List tree.Member) → main_form v ms ≡ true → (v ≡ Of Int) × (ms ≡ [])
main_formed (Of Int) [] e = (refl, refl)
main_formed _ ms e = absurd cc

main_is : (b : Bool) (v : Verdict StaticType) (ms : List tree.Member) → not b || main_form v ms ≡ true → b ≡ true → (v ≡ Of Int) × (ms ≡ [])
main_is true v ms e p = main_formed v ms e
main_is false v ms e p = absurd cc

-- ---- all of it

pub record HeadGood (g : Tables) (f : tree.Function) : Type 0 where
  pub signature : IsGoodSignature (head_of false g f).signature
  pub shapes : part_shapes (map part_of f.parameters) ≡ map shape_of signature.types
  pub result : ResultGood (head_of false g f).signature.regions f.result signature.gives
  pub main_takes : is_main f ≡ true → f.parameters ≡ []
  pub main_gives : is_main f ≡ true → signature.gives ≡ Int
  pub once : repeated [] f.parameters ≡ []
  pub effect : AllBelow (head_of false g f).signature.regions (head_of false g f).signature.effect
  pub bounds : BoundsBelow (head_of false g f).signature.regions (head_of false g f).signature.bounds
  pub names : NamesBelow (head_of false g f).signature.regions (head_of false g f).names

pub head_good : (g : Tables) (f : tree.Function) → KnowsTags g → (head_of false g f).faults ≡ [] → HeadGood g f
head_good g f tags p =
    let ps : Parameters = read_parameters g (variables [] 0) f.parameters in
    let n : ℕ = ps.variables_after.count in
    let r : Verdict StaticType = result_type g ps.variables_after.names f.result in
    let c : HeadClean g f ps r = head_clean g f p in
    let q : ParametersGood (variables [] 0) f.parameters ps = parameters_good g (variables [] 0) f.parameters tags tt c.parameters in
    let u : (t : StaticType) × (r ≡ Of t) × PlainGood n f.result t =
    surely_is (λ u. PlainGood n f.result u) r (result_good n g ps.variables_after.names f.result tags q.names) c.result in
    let known_result : ResultGood n f.result u.0 = result_facts n f.result u.0 u.2 in
    let main : is_main f ≡ true → (r ≡ Of Int) × (f.parameters ≡ []) =
    main_is (is_main f) r f.parameters (test_is (not (is_main f) || main_form r f.parameters) type_rule f.name.at c.main) in
    record {
      signature = record {
        sound = ap (λ fs. is_clean fs) p;
        types = q.types;
        parameters = q.known;
        objects = q.objects;
        types_below = q.below;
        gives = u.0;
        result = ap (λ (v : Verdict StaticType). known v) u.1;
        plain = known_result.plain;
        gives_below = known_result.below;
      };
      shapes = q.shapes;
      result = known_result;
      main_takes = λ e. (main e).1;
      main_gives = λ e. of_is u.0 Int (sym u.1 ∙ (main e).0);
      once = c.once;
      effect = effect_below ps.variables_after (key_regions ps.types) f.effect q.names;
      bounds = bounds_below n ps.variables_after.names f.bounds q.names;
      names = q.names;
    }

-- ---- other tables

-- a head as it is read, with the type of its result
abbrev reading : Bool → tree.Function → Parameters → Verdict StaticType → Reading
reading l f ps r = record {
  variables = ps.variables_after;
  parameters = ps.types;
  result = r;
  effect = effect_of l ps.variables_after (key_regions ps.types) f.effect;
  bounds = bounds_of ps.variables_after.names f.bounds;
}

pub head_same : (l : Bool) (g h : Tables) (f : tree.Function) → SameTags g h → head_of l g f ≡ head_of l h f
head_same l g h f k =
    let ps : Parameters = read_parameters h (variables [] 0) f.parameters in
    ap (λ (z : Parameters). head_after l g f z) (parameters_same g h k (variables [] 0) f.parameters)
    ∙ ap (λ (v : Verdict PartialType). head_judged f (reading l f ps (after (after v (settled_alone f.result.at)) (if_result f.result.at))))
    (written_same g h k ps.variables_after.names f.result)
