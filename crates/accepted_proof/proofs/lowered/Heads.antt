-- Functions and globals without fault, where each tag of the tables is the program's: lowering takes them, and all is known of their types.
use Rattle.std.proofs.Common.{◌≡◌, ℕ, ◌≤◌, Bool, true, false, Some, List, [], ◌∷◌, refl, sym, subst, ap, ◌∙◌}
use Rattle.std.specs.Prelude.{◌||◌, length, map}
use Rattle.cyc_tree.specs.Tree as tree
use Rattle.cyc_tree.specs.Tree.{TypeName}
use Rattle.source_lowering.specs.Lowerable as lowering
use Rattle.source_lowering.specs.Lowerable.{AreStructs, IsObject, TakesFunction, TakesGlobal, TakesItem, TakesItems, TakesResult}
use Rattle.source_lowering.specs.Programs.{parameter_names}
use Rattle.source_meaning.specs.Shapes.{Shape, part_of, part_shapes, settled, written}
use Rattle.source_meaning.specs.Steps.{World}
use Rattle.type_proof.specs.Entries.{AreObjects, IsObjectType, IsPlain}
use Rattle.type_proof.specs.Programs.{with_all}
use Rattle.source_typing.specs.Functions.{AllSpotted, Parameters, Variables, all_faults, fits_parameter, function_scope, head_of, if_parameter, if_result}
use Rattle.source_typing.specs.Functions.{parameter_type, read_parameters, result_type, take_spots, variables}
use Rattle.source_typing.specs.Globals.{count_of, fitting_global, foreign_names, global_faults, global_type, has_none, initial_faults}
use Rattle.source_typing.specs.Scope.{Env, at_item}
use Rattle.source_typing.specs.Tables.{Tables}
use Rattle.source_typing.specs.Tags.{settled_alone}
use Rattle.source_typing.specs.Types.{Char, Fat, Handle, Int, Key, Null, StaticType, Struct, Thin, Union, Unique, Unsigned, Void, is_void, shape_of}
use Rattle.source_typing.specs.Verdicts.{Faulty, Of, Unjudged, Verdict, after, faults_of, if_fits, known}
use Rattle.source_typing.specs.Written.{RegionNamed, all_found, spots_of}
use Rattle.source_typing.proofs.Inversion.{after_is, none_of_both, of_is}
use Rattle.accepted_proof.proofs.Constants.{IsFew}
use Rattle.accepted_proof.proofs.Globals.{GlobalGood}
use Rattle.accepted_proof.proofs.good.Functions.{FunctionGood, all_result}
use Rattle.accepted_proof.proofs.Heads.{HeadClean, HeadGood, head_clean}
use Rattle.accepted_proof.proofs.Known.{IsKnown, IsWord, known_object}
use Rattle.accepted_proof.proofs.lowered.Bodies.{items_takes}
use Rattle.accepted_proof.proofs.lowered.Forms.{AreKnown, AreWords, IsGiven, IsKnownScope}
use Rattle.accepted_proof.proofs.lowered.Scopes.{scope_all}
use Rattle.accepted_proof.proofs.lowered.Types.{AreSound, BaseThere, TagsThere, base_there, begins_first, int_written, object_type, result_takes, twice_keeps}
use Rattle.accepted_proof.proofs.lowered.Types.{word_type, written_known}
use Rattle.accepted_proof.proofs.lowered.ObjectSizes.{elements_few, global_few}
use Rattle.accepted_proof.proofs.lowered.SizedGlobals.{IsSized}
use Rattle.source_typing.specs.Written as types

-- ---- verdicts

known_is : (v : Verdict StaticType) (t : StaticType) → known v ≡ Some t → v ≡ Of t
known_is (Of u) t e = let z : u ≡ t = cc in ap (λ (y : StaticType). Of y) z
known_is (Faulty f fs) t e = absurd cc
known_is Unjudged t e = absurd cc

record Fits (b : Bool) (u t : StaticType) : Type 0 where
  fits : b ≡ true
  same : u ≡ t

fits_is : (b : Bool) (at : ℕ) (u t : StaticType) → if_fits b at u ≡ Of t → Fits b u t
fits_is true at u t e = record { fits = refl; same = of_is u t e }
fits_is false at u t e = absurd cc

-- a parameter is a word
parameter_word : (t : StaticType) → fits_parameter t ≡ true → IsWord t
parameter_word Void e = absurd cc
parameter_word (Struct tag rs) e = absurd cc
parameter_word Null e = tt
parameter_word Int e = tt
parameter_word Unsigned e = tt
parameter_word Char e = tt
parameter_word (Thin n r t) e = tt
parameter_word (Fat r t) e = tt
parameter_word (Unique n t) e = tt
parameter_word (Handle r) e = tt
parameter_word (Key r) e = tt
parameter_word (Union tag rs) e = absurd cc

module _ (w : World) (g : Tables) (tags : TagsThere w g) (sound : AreSound g) where
  -- ---- parameters

  pub record ParametersLowered (ms : List tree.Member) (ts : List StaticType) : Type 0 where
    pub takes : lowering.AreWords ms
    pub words : AreWords ts
    pub known : AreKnown w ts

  parameters_lowered : (vs : Variables) (ms : List tree.Member) (ts : List StaticType) → all_faults (read_parameters g vs ms).types ≡ []
      → map known (read_parameters g vs ms).types ≡ map (λ (t : StaticType). Some t) ts
      → part_shapes (map part_of ms) ≡ map (λ (t : StaticType). shape_of t) ts → AreObjects ts → ParametersLowered ms ts
  parameters_lowered vs [] [] p q s o = record { takes = tt; words = tt; known = tt }
  parameters_lowered vs [] (t ∷ ts) p q s o = absurd cc
  parameters_lowered vs (m ∷ ms) [] p q s o = absurd cc
  parameters_lowered vs (m ∷ ms) (t ∷ ts) p q s o =
      let all : AllSpotted = take_spots vs (spots_of g m.of) in
      let v : Verdict StaticType = parameter_type g m.of all in
      let z = none_of_both (faults_of v) (all_faults (read_parameters g all.after_all ms).types) p in
      let there : BaseThere w m.of.base =
      base_there w g m.of (all.found, all.faults) (λ z. after (after z (settled_alone m.of.at)) (if_parameter m.of.at)) tags sound
      (twice_keeps (settled_alone m.of.at) (if_parameter m.of.at)) z.0 in
      let is : known v ≡ Some t = cc in
      let others : map known (read_parameters g all.after_all ms).types ≡ map (λ (t : StaticType). Some t) ts = cc in
      let shape : settled (written m.of) ≡ shape_of t = cc in
      let shapes : part_shapes (map part_of ms) ≡ map (λ (t : StaticType). shape_of t) ts = cc in
      let a = after_is (after (types.written_with g m.of (all.found, all.faults)) (settled_alone m.of.at)) (if_parameter m.of.at) t (known_is v t is) in
      let f : Fits (fits_parameter a.0) a.0 t = fits_is (fits_parameter a.0) m.of.at a.0 t a.2 in
      let word : IsWord t = parameter_word t (subst (λ (y : StaticType). fits_parameter y ≡ true) f.same f.fits) in
      let r : ParametersLowered ms ts = parameters_lowered all.after_all ms ts z.1 others shapes o.1 in
      record {
        takes = (word_type w m.of t there o.0 word shape, r.takes);
        words = (word, r.words);
        known = (written_known w m.of t there o.0 shape, r.known);
      }

  -- ---- results

  given_is : (t : StaticType) → is_void t || fits_parameter t ≡ true → IsPlain t → (IsObjectType t → IsKnown w (shape_of t)) → IsGiven w t
  given_is Void e o k = tt
  given_is Int e o k = (tt, k o)
  given_is Unsigned e o k = (tt, k o)
  given_is Char e o k = (tt, k o)
  given_is (Thin n r t) e o k = (tt, k o)
  given_is (Fat r t) e o k = (tt, k o)
  given_is (Unique n t) e o k = (tt, k o)
  given_is (Struct tag rs) e o k = absurd cc
  given_is (Union tag rs) e o k = absurd cc
  given_is (Handle r) e o k = (tt, k o)
  given_is (Key r) e o k = (tt, k o)
  given_is _ e o k = absurd o

  pub record ResultLowered (t : TypeName) (u : StaticType) : Type 0 where
    pub takes : TakesResult t
    pub given : IsGiven w u

  result_lowered : (names : List RegionNamed) (t : TypeName) (u : StaticType) → result_type g names t ≡ Of u → IsPlain u
      → settled (written t) ≡ shape_of u → ResultLowered t u
  result_lowered names t u q o s =
      let there : BaseThere w t.base =
      base_there w g t (all_found names (spots_of g t)) (λ z. after (after z (settled_alone t.at)) (if_result t.at)) tags sound
      (twice_keeps (settled_alone t.at) (if_result t.at)) (ap (λ (v : Verdict StaticType). faults_of v) q) in
      let a = after_is (after (types.written g names t) (settled_alone t.at)) (if_result t.at) u q in
      let f : Fits (is_void a.0 || fits_parameter a.0) a.0 u = fits_is (is_void a.0 || fits_parameter a.0) t.at a.0 u a.2 in
      let given : IsGiven w u =
      given_is u (subst (λ (y : StaticType). is_void y || fits_parameter y ≡ true) f.same f.fits) o (λ x. written_known w t u there x s) in
      record { takes = result_takes w t u there o given s; given = given }

  -- ---- heads

  pub record HeadLowered (f : tree.Function) (k : HeadGood g f) : Type 0 where
    pub parameters : ParametersLowered f.parameters k.signature.types
    pub result : ResultLowered f.result k.signature.gives

  pub head_lowered : (f : tree.Function) (k : HeadGood g f) → (head_of false g f).faults ≡ [] → HeadLowered f k
  head_lowered f k p =
      let ps : Parameters = read_parameters g (variables [] 0) f.parameters in
      let r : Verdict StaticType = result_type g ps.variables_after.names f.result in
      let c : HeadClean g f ps r = head_clean g f p in
      record {
        parameters = parameters_lowered (variables [] 0) f.parameters k.signature.types c.parameters k.signature.parameters k.shapes
            k.signature.objects;
        result = result_lowered ps.variables_after.names f.result k.signature.gives (known_is r k.signature.gives k.signature.result)
            k.signature.plain k.result.shape;
      }

-- ---- functions

pub function_lowered : (w : World) (g : Tables) (i : ℕ) (f : tree.Function) (k : FunctionGood g i f) → TagsThere w g → AreSound g
    → IsKnownScope w [] (function_scope false g i (head_of false g f)) → TakesFunction w f
function_lowered w g i f k tags sound scope =
    let h : HeadLowered w g tags sound f k.head = head_lowered w g tags sound f k.head k.clean in
    let inside : Env = function_scope false g i (head_of false g f) in
    record {
      result = h.result.takes;
      main = λ e. int_written f.result
          (k.head.result.shape ∙ ap (λ (u : StaticType). shape_of u) (k.head.main_gives e));
      parameters = h.parameters.takes;
      body = subst (λ (s : Shape). TakesItems w s (parameter_names (map part_of f.parameters) 0 []) (length (map part_of f.parameters)) f.body)
          (sym k.head.result.shape)
          (items_takes w k.head.signature.gives h.result.given f.body (parameter_names (map part_of f.parameters) 0 []) (length (map part_of f.parameters))
          (with_all (map part_of f.parameters) k.head.signature.types inside) true
          (all_result (map part_of f.parameters) k.head.signature.types inside ∙ k.head.signature.result)
          (scope_all w (map part_of f.parameters) k.head.signature.types 0 [] inside k.head.shapes h.parameters.known scope)
          k.body k.faults);
    }

-- ---- globals

-- by the program's tables `g` it has no fault, and `h` are those by which its type was read
module _ (w : World) (g h : Tables) (i : ℕ) (x : tree.Global) (k : GlobalGood h i x) (tags : TagsThere w g) (sound : AreSound g)
    (p : global_faults (at_item false g i) x ≡ [])
  where
    there : BaseThere w x.of.base
    there =
        let s : Env = at_item false g i in
        let names : List RegionNamed = foreign_names (spots_of g x.of) in
        let q = none_of_both (faults_of (global_type s x)) (initial_faults s x.initial (global_type s x)) p in
        base_there w g x.of (all_found names (spots_of g x.of))
        (λ z. after (after z (settled_alone x.of.at)) (fitting_global s x.of.at (count_of x.initial) (has_none names))) tags sound
        (twice_keeps (settled_alone x.of.at) (fitting_global s x.of.at (count_of x.initial) (has_none names))) q.0

    pub global_known : IsKnown w (shape_of k.type)
    global_known = written_known w x.of k.type there k.good.object k.good.shape

    -- an array has few elements, since it has as many bytes by its meaning as by the rules
    few : AreStructs w.unions w.structs → IsSized w g i (tree.GlobalItem x) → IsFew x.initial
    few structs sized =
        elements_few w x.initial (settled (written x.of)) structs
        (subst (λ (s : Shape). IsObject w.unions w.structs s) (sym k.good.shape) (known_object w (shape_of k.type) global_known))
        (subst (λ (n : ℕ). n ≤ 4096) (sym sized) (global_few (at_item false g i) x p))

    pub global_lowered : AreStructs w.unions w.structs → IsSized w g i (tree.GlobalItem x) → TakesItem w (tree.GlobalItem x)
    global_lowered structs sized = (
      object_type w x.of k.type there k.good.object k.good.shape,
      subst (λ (s : Shape). TakesGlobal s x.initial) (sym k.good.shape)
          (k.initial.taken (begins_first h k.type k.good.object k.begins) (few structs sized)),
    )
