-- A program that is in order is never stuck, on any input, with any fuel.
use Rattle.std.proofs.Common.{◌≡◌, ℕ, zero, suc, ◌+◌, Bool, true, false, inl, Option, Some, None, List, [], ◌∷◌, refl, sym, ◌∙◌, ap, subst, arith}
use Rattle.std.specs.Prelude.{map, length, ◌++◌, slice_get, option_and_then, codes, bytes_eq, if◌then◌else◌}
use Rattle.std.proofs.lemmas.Bool.{false≢true}
use Rattle.std.proofs.lemmas.Option.{slice_get_within, same_Some}
use Rattle.cyc_tree.specs.Tree as tree
use Rattle.cyc_tree.specs.Tree.{Initial, Item, Program}
use Rattle.cyc_words.specs.Events.{SourceEnding}
use Rattle.source_meaning.specs.Shapes.{Shape, ArrayShape, settled, written}
use Rattle.source_meaning.specs.Memory.{Spot, Scalar, Object, Memory}
use Rattle.source_meaning.specs.Steps.{Variable, Binding, World, Routine, ◌>>=◌, need}
use Rattle.step_trees.specs.Trees.{Stops}
use Rattle.source_meaning.specs.Conversions.{one, integer}
use Rattle.source_meaning.specs.Places.{bound_to}
use Rattle.source_meaning.specs.Calls.{function_of}
use Rattle.source_meaning.specs.Strings.{program_strings}
use Rattle.source_meaning.specs.Programs.{heap_spot, heap_alone, globals_from, global_shape, global_object, global_objects, string_object, world_of, entered}
use Rattle.source_meaning.specs.Programs.{start, source}
use Rattle.source_typing.specs.Tables as typing
use Rattle.source_typing.specs.Tables.{What, OfValue, Stored, Arrayed, Counter, Unknown, Signature, find}
use Rattle.source_typing.specs.Types.{Int, Unsigned, Char, Void, Null, Thin, Fat, Unique, Handle, Key, Struct, Union, StaticType, shape_of}
use Rattle.type_proof.specs.Flat.{Tables, flat}
pub use Rattle.type_proof.specs.Programs.{GlobalFound, ArrayFound, MainFound, ProgramJudged}
use Rattle.type_proof.proofs.invariant.Invariant.{heap, Reached, Ghost, Laid, AllLaid, HaveTypes, Inv}
use Rattle.type_proof.proofs.invariant.Runs.{Safe, Runs, not_stuck}
use Rattle.type_proof.proofs.invariant.After.{flying}
use Rattle.type_proof.proofs.invariant.Layouts.{Structs}
use Rattle.type_proof.proofs.invariant.Names.{NameOf, AllStand, AllOrdered}
use Rattle.source_typing.specs.Named.{Below}
use Rattle.type_proof.proofs.invariant.Births.{known_live}
use Rattle.type_proof.proofs.invariant.Scenes.{BoundAs, LaidAs, Globals}
use Rattle.type_proof.proofs.expressions.Integers.{IsWord, word_of}
use Rattle.type_proof.proofs.Entries.{run_type, Enters, Invokes}
use Rattle.type_proof.proofs.statements.Functions.{Sources}
use Rattle.type_proof.proofs.Entered.{runs_entered, all_fuel}
use Rattle.type_proof.proofs.First.{first_ghost, first_inv}
use Rattle.type_proof.proofs.invariant.Rows.{got_behind}
use Rattle.type_proof.proofs.Strings.{AreFound, StringsLaid, all_found, routine_found, strings_kept}
use Rattle.type_proof.proofs.FirstStrings.{StringsTyped, strings_typed, globals_counted, ready_before}
use Rattle.std.proofs.lemmas.Slice.Eq.{bytes_eq-Decides}
use Rattle.type_proof.proofs.GlobalTypes.{globals_typed}
use Rattle.type_proof.proofs.Started.{Ready, InitialLaid, TypedEntity, EachTyped, runs_globals}

-- ---- the memory at the start

first_ready : (world : World) (items : List Item) (k : ℕ) (os later : List Object)
    → ((i : ℕ) → slice_get os (k + i) ≡ slice_get (global_objects world items ++ later) i) → Ready world items k first_ghost (heap_alone os)
first_ready world [] k os later h = tt
first_ready world (tree.GlobalItem x ∷ items) k os later h =
    let o : Object = global_object world x.initial (settled (written x.of)) in
    let here : slice_get os k ≡ Some o = ap (slice_get os) (omega arith) ∙ h 0 in (
      λ j. refl,
      λ j. ap (option_and_then (λ (y : Object). y (0 + j))) here ∙ ap (λ (c : ℕ). o c) (omega arith),
      slice_get_within os k o here,
      first_ready world items (suc k) os later (λ i. ap (slice_get os) (omega arith) ∙ h (suc i)),
    )
first_ready world (tree.StructItem s ∷ items) k os later h = first_ready world items k os later h
first_ready world (tree.UnionItem s ∷ items) k os later h = first_ready world items k os later h
first_ready world (tree.FunctionItem f ∷ items) k os later h = first_ready world items k os later h

-- ---- globals by their names

-- no type's shape is an array's
abbrev is_array : Shape → Bool
is_array (ArrayShape n s) = true
is_array s = false

no_array : (t : StaticType) → is_array (shape_of t) ≡ false
no_array Int = refl
no_array Unsigned = refl
no_array Char = refl
no_array Void = refl
no_array Null = refl
no_array (Thin n r t) = refl
no_array (Fat r t) = refl
no_array (Unique n t) = refl
no_array (Handle r) = refl
no_array (Key r) = refl
no_array (Struct tag rs) = refl
no_array (Union tag rs) = refl

apart : (t : StaticType) (n : ℕ) (s : Shape) → shape_of t ≡ ArrayShape n s → ⊥
apart t n s e = false≢true (sym (no_array t) ∙ ap is_array e)

module _ (d : Tables) (tables : typing.Tables) (w : Ghost) where
  -- the type is that of the tables
  laid_variable : (t u : StaticType) (at s : Spot) → (shape_of t ≡ shape_of u → t ≡ u) → Variable (shape_of u) s ≡ Variable (shape_of t) at
      → Laid w s (flat heap d (run_type u)) → Laid w at (flat heap d (run_type t))
  laid_variable t u at s same e h =
      let shapes : shape_of u ≡ shape_of t = cc in
      let spots : s ≡ at = cc in
      subst (λ (y : Spot). Laid w y (flat heap d (run_type t))) spots
      (subst (λ (y : StaticType). Laid w s (flat heap d (run_type y))) (sym (same (sym shapes))) h)

  laid_array : (t u : StaticType) (n c : ℕ) (at s : Spot) → (shape_of t ≡ shape_of u → t ≡ u)
      → Variable (ArrayShape c (shape_of u)) s ≡ Variable (ArrayShape n (shape_of t)) at
      → AllLaid w s c (flat heap d (run_type u)) → AllLaid w at n (flat heap d (run_type t))
  laid_array t u n c at s same e h =
      let shapes : shape_of u ≡ shape_of t = cc in
      let counts : c ≡ n = cc in
      let spots : s ≡ at = cc in
      subst (λ (y : Spot). AllLaid w y n (flat heap d (run_type t))) spots
      (subst (λ (k : ℕ). AllLaid w s k (flat heap d (run_type t))) counts
      (subst (λ (y : StaticType). AllLaid w s c (flat heap d (run_type y))) (sym (same (sym shapes))) h))

  -- what a name is bound to has its cells, by the initializer of the global
  laid_entity : (b : Binding) (h : TypedEntity d tables w b) (v : What) → find tables b.name ≡ Some (OfValue v) → LaidAs d (λ a. heap) w (Some b.entity) v
  laid_entity b h (Stored t r) found = λ at q. by h.initial at (sym h.is ∙ same_Some b.entity (Variable (shape_of t) at) q) h.laid
    where
      by : (i : Initial) (at : Spot) → Variable (global_shape i (shape_of h.type)) h.at ≡ Variable (shape_of t) at → InitialLaid d w i h.type h.at
          → Laid w at (flat heap d (run_type t))
      by Initial.Unset at q laid = laid_variable t h.type at h.at (h.same (Stored t r) t found refl) q laid
      by (Initial.Given c) at q laid = laid_variable t h.type at h.at (h.same (Stored t r) t found refl) q laid
      by (Initial.Elements c) at q laid = absurd (apart t c (shape_of h.type) (let y : ArrayShape c (shape_of h.type) ≡ shape_of t = cc in sym y))
  laid_entity b h (Arrayed t r) found = λ at n q. by h.initial at n (sym h.is ∙ same_Some b.entity (Variable (ArrayShape n (shape_of t)) at) q) h.laid
    where
      by : (i : Initial) (at : Spot) (n : ℕ) → Variable (global_shape i (shape_of h.type)) h.at ≡ Variable (ArrayShape n (shape_of t)) at
          → InitialLaid d w i h.type h.at → AllLaid w at n (flat heap d (run_type t))
      by Initial.Unset at n q laid = absurd (apart h.type n (shape_of t) (let y : shape_of h.type ≡ ArrayShape n (shape_of t) = cc in y))
      by (Initial.Given c) at n q laid = absurd (apart h.type n (shape_of t) (let y : shape_of h.type ≡ ArrayShape n (shape_of t) = cc in y))
      by (Initial.Elements c) at n q laid = laid_array t h.type n c at h.at (h.same (Arrayed t r) t found refl) q laid
  laid_entity b h Counter found = tt
  laid_entity b h (Unknown sound) found = tt

  laid_none : (v : What) → LaidAs d (λ a. heap) w None v
  laid_none (Stored t r) = λ at q. absurd cc
  laid_none (Arrayed t r) = λ at n q. absurd cc
  laid_none Counter = tt
  laid_none (Unknown sound) = tt

  laid_global : (bs : List Binding) (x : List ℕ) (v : What) → EachTyped d tables w bs → find tables x ≡ Some (OfValue v)
      → LaidAs d (λ a. heap) w (bound_to bs x) v
  laid_global [] x v h found = laid_none v
  laid_global (b ∷ bs) x v h found = by (laid_global bs x v h.1 found) (bytes_eq b.name x) refl
    where
      by : LaidAs d (λ a. heap) w (bound_to bs x) v → (c : Bool) → bytes_eq b.name x ≡ c → LaidAs d (λ a. heap) w (if c then Some b.entity else bound_to bs x) v
      by others true z = laid_entity b h.0 v (ap (find tables) ((bytes_eq-Decides b.name x).0 z) ∙ found)
      by others false z = others

-- a function whose region variables all stand for the heap
heap_stands : (d : Tables) (w : Ghost) (m : Memory) (rs : List NameOf) → Inv d w m → AllStand (λ a. heap) 0 w m rs
heap_stands d w m [] i = tt
heap_stands d w m (r ∷ rs) i = (i.heap_lives, inl i.heap_is_free, heap_stands d w m rs i)

heap_ordered : (d : Tables) (w : Ghost) (m : Memory) (bs : List (NameOf × NameOf)) → Inv d w m → AllOrdered (λ a. heap) w bs
heap_ordered d w m [] i = tt
heap_ordered d w m ((a, b) ∷ bs) i = (i.itself heap (known_live d w m heap i i.heap_lives), heap_ordered d w m bs i)

heap_enters : (d : Tables) (s : Signature) (w : Ghost) (m : Memory) → Inv d w m → Enters s (λ a. heap) 0 w m
heap_enters d s w m i = record {
  heap_is = refl;
  known = λ a. known_live d w m heap i i.heap_lives;
  effect = heap_stands d w m s.effect i;
  bounds = heap_ordered d w m s.bounds i;
}

module _ (p : Program) (tables : typing.Tables) (judged : ProgramJudged p tables) where
  abbrev world : World
  world = world_of p

  -- its structs and unions
  abbrev d : Tables
  d = record { structs = judged.structs.types; unions = judged.unions.types }

  structs : Structs d world tables
  structs = record {
    in_order = judged.structs.in_order;
    laid_out = judged.structs.laid_out;
    few = judged.structs.few;
    plain = judged.plain;
    unions_laid = judged.unions.laid_out;
    unions = judged.unions.members;
  }

  all_globals : (w : Ghost) → EachTyped d tables w world.globals → StringsLaid w world.strings → Globals d tables world w
  all_globals w h strings = record { named = λ x v e. laid_global d tables w world.globals x v h e; strings = strings }

  -- each literal is found by its place
  spelled : AreFound world.strings (program_strings p)
  spelled = all_found (program_strings p) (length (globals_from p 0))

  sources : Sources d world tables
  sources = record {
    structs = structs;
    globals = found;
    functions = judged.functions;
    spelled = λ x f e. routine_found world.strings x f p spelled e;
  }
    where
      found : (x : List ℕ) (v : What) → find tables x ≡ Some (OfValue v) → BoundAs 0 (λ a. heap) (bound_to world.globals x) v
      found x (Stored t r) e =
          let z : GlobalFound world x t r = judged.variables x t r e in
          record { at = heap_spot z.number; is = z.is; region = refl; within = subst (λ (q : NameOf). Below 0 q) (sym z.region) tt; below = z.below }
      found x (Arrayed t r) e =
          let z : ArrayFound world x t r = judged.arrays x t r e in (
            z.count,
            record { at = heap_spot z.number; is = z.is; region = refl; within = subst (λ (q : NameOf). Below 0 q) (sym z.region) tt; below = z.below },
          )
      found x Counter e = absurd (judged.plain x (OfValue Counter) e)
      found x (Unknown sound) e = tt

  -- `main` is entered once the globals are stored
  runs_main : (n : ℕ) (w : Ghost) (m : Memory) → Inv d w m → EachTyped d tables w world.globals → StringsLaid w world.strings
      → Runs n (need (function_of world.functions (codes "main")) >>= λ f. entered f world [] >>= one >>= integer) m (λ status m'. Unit {0})
  runs_main n w m i each strings =
      let main : MainFound world tables = judged.main in
      let fuel : Invokes n d world tables × Rattle.type_proof.proofs.statements.Flows.Turning n d world tables = all_fuel d world tables sources n in
      let runs = runs_entered n d world tables sources fuel.0 fuel.1 (codes "main") main.signature main.function
      (judged.functions (codes "main") main.signature main.function main.found) (λ a. heap) 0 0 w m [] (omega arith) i (all_globals w each strings)
      (heap_enters d main.signature w m i)
      (subst (λ (ts : List StaticType). Rattle.type_proof.proofs.invariant.Arguments.Flown d w 0 [] (map run_type ts)) (sym main.types) tt) in
      subst (λ (o : Option Routine). Runs n (need o >>= λ f. entered f world [] >>= one >>= integer) m (λ status m'. Unit {0})) (sym main.function.found)
      (record {
        by = λ next q. runs.by (λ us. (one us >>= integer) next) (λ us m1 y.
            let typed : HaveTypes d y.ghost (flying 0 0) us (flat heap d (run_type Int)) =
            subst (λ (t : StaticType). HaveTypes d y.ghost (flying 0 0) us (flat heap d (run_type t))) main.gives y.holds in
            let z : IsWord us Int = word_of d (λ a. heap) y.ghost (flying 0 0) us Int refl typed in
            subst (λ (vs : List Scalar). Safe n ((one vs >>= integer) next m1)) (sym z.is) (q z.word m1 tt));
      })

  safe_ended : (n status : ℕ) → Safe n (Stops (SourceEnding.Ended status))
  safe_ended zero status = tt
  safe_ended (suc n) status = tt

  safe_start : (n : ℕ) → Safe n (start p)
  safe_start n =
      let ss : List Object = map string_object (program_strings p) in
      let os : List Object = global_objects world p ++ ss in
      let count : ℕ = length (globals_from p 0) in
      let z : StringsTyped d first_ghost (heap_alone os) (program_strings p) count =
      strings_typed d first_ghost os (program_strings p) count (first_inv d os) (λ y l. refl)
      (λ i. ap (λ (c : ℕ). slice_get os (c + i)) (globals_counted world p 0) ∙ got_behind (global_objects world p) ss i) in
      let ready : Ready world p 0 first_ghost (heap_alone os) = first_ready world p 0 os ss (λ i. ap (slice_get os) (omega arith)) in
      (runs_globals d n world tables structs (λ status m'. Unit {0}) p 0 z.ghost (heap_alone os)
      (need (function_of world.functions (codes "main")) >>= λ f. entered f world [] >>= one >>= integer)
      (globals_typed world tables p judged.plain judged.globals) spelled z.laid z.inv
      (ready_before world p 0 first_ghost z.ghost (heap_alone os) (λ y l. z.before y (omega (arith, l))) ready)
      (λ w m i keeps each. runs_main n w m i each (strings_kept z.ghost w world.strings (λ s t e. keeps s (Reached t) e) z.laid))).by
      (λ status m. Stops (SourceEnding.Ended status)) (λ status m x. safe_ended n status)

  -- The program is never stuck.
  pub never_stuck : (input : List ℕ) (n : ℕ) → (source p input n).ending ≡ SourceEnding.Stuck → ⊥
  never_stuck input n = not_stuck p input n (safe_start (suc n))
