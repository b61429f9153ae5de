-- A function that is in order runs safely, whoever calls it.
use Rattle.std.proofs.Common.{◌≡◌, ℕ, ◌+◌, Bool, true, Option, Some, List, [], refl, sym, ◌∙◌, ap, subst, arith}
use Rattle.std.specs.Prelude.{map, if◌then◌else◌}
use Rattle.std.proofs.lemmas.Bool.{eq-eqb}
use Rattle.std.proofs.lemmas.Option.{same_Some}
use Rattle.source_meaning.specs.Memory.{Region, Frame, Memory}
use Rattle.source_meaning.specs.Steps.{Entity, Routine, World, Scope}
use Rattle.source_meaning.specs.Places.{bound_to}
use Rattle.source_meaning.specs.Calls.{function_of}
use Rattle.source_meaning.specs.Strings.{items_strings}
use Rattle.source_typing.specs.Regions.{Regions, TheHeap, Level, with_scope}
use Rattle.source_typing.specs.Left.{begins_as}
use Rattle.source_typing.specs.Scope.{Env, Local, with_locals, meant, block_entered}
use Rattle.type_proof.proofs.invariant.Standing as standing
use Rattle.type_proof.proofs.invariant.Standing.{Alongside, LocalsBelow}
use Rattle.source_typing.specs.Tables as typing
use Rattle.source_typing.specs.Tables.{What, OfValue, OfFunction, Stored, Arrayed, Counter, Unknown, Signature, find}
use Rattle.source_typing.specs.Types.{StaticType, renamed}
use Rattle.type_proof.specs.Flat.{Tables}
pub use Rattle.type_proof.specs.Programs.{FunctionJudged}
use Rattle.type_proof.proofs.invariant.Invariant.{heap, Ghost, Inv}
use Rattle.type_proof.proofs.invariant.Scopes.{block_ghost, block_memory, frame_births}
use Rattle.type_proof.proofs.invariant.Layouts.{Structs}
use Rattle.type_proof.proofs.invariant.Names.{NameOf, NamesOk, naming, names_scope, names_entered}
use Rattle.source_typing.specs.Named.{Below}
use Rattle.type_proof.proofs.Strings.{AreFound}
use Rattle.type_proof.proofs.invariant.Scenes.{TypeBelow, Alike, renamed_alike, BoundAs, LivesAs, bound_as_alike, laid_as_later, Globals, globals_kept, Scene}
use Rattle.type_proof.proofs.Entries.{Function, Enters, declared_means}
use Rattle.type_proof.proofs.statements.Surroundings.{ResultIs, Surrounds, below_zero, type_up, type_zero, naming_alike, naming_itself}

-- What holds of the program: its structs are known, its globals lie in the heap, its functions are in order, and their strings are there.
pub record Sources (d : Tables) (world : World) (tables : typing.Tables) : Type 0 where
  pub structs : Structs d world tables
  pub globals : (x : List ℕ) (v : What) → find tables x ≡ Some (OfValue v) → BoundAs 0 (λ a. heap) (bound_to world.globals x) v
  pub functions : (x : List ℕ) (s : Signature) (F : Function world x s) → find tables x ≡ Some (OfFunction s) → FunctionJudged world tables x s F
  -- the literals of each function's body are found by their places
  pub spelled : (x : List ℕ) (f : Routine) → function_of world.functions x ≡ Some f → AreFound world.strings (items_strings f.body)

module _ (d : Tables) (world : World) (tables : typing.Tables) (sources : Sources d world tables) (x : List ℕ) (s : Signature) (F : Function world x s)
    (judged : FunctionJudged world tables x s F) (h : NameOf → Region) (heap_is : h TheHeap ≡ heap) (a : ℕ)
  where
    -- where the body begins
    abbrev pub entry_scope : Scope
    entry_scope = record { world = world; locals = []; frame = a; result = F.routine.result }

    abbrev pub entry_names : NameOf → Region
    entry_names = naming h judged.outside.regions.count (Frame a)

    -- so many region variables
    pub count_is : judged.outside.regions.count ≡ s.regions
    count_is = ap (λ (r : Regions). r.count) judged.regions

    pub means : (y : List ℕ) → meant (block_entered judged.outside) y ≡ find tables y
    means y = ap (λ ls. find (with_locals ls judged.outside.tables) y) judged.locals ∙ ap (λ (t : typing.Tables). find t y) judged.tables_are

    heap_alone : (r : NameOf) → Below 0 r → r ≡ TheHeap
    heap_alone TheHeap l = refl
    heap_alone (Level k) l = absurd (omega (arith, l))

    pub heap_alike : Alike 0 (λ c. heap) entry_names
    heap_alike TheHeap l = heap_is
    heap_alike (Level k) l = absurd (omega (arith, l))

    pub variables_alike : Alike s.regions h entry_names
    variables_alike = subst (λ (n : ℕ). Alike n h entry_names) count_is (naming_alike h judged.outside.regions.count (Frame a))

    heap_live : judged.outside.regions.live TheHeap ≡ true
    heap_live = ap (λ (r : Regions). r.live TheHeap) judged.regions

    -- the globals lie in the heap, which is live
    heap_lives : (r : NameOf) → Below 0 r → (with_scope judged.outside.regions).live r ≡ true
    heap_lives r l = subst (λ (q : NameOf). (with_scope judged.outside.regions).live q ≡ true) (sym (heap_alone r l)) heap_live

    global_lives : (e : Option Entity) (v : What) → BoundAs 0 (λ c. heap) e v → LivesAs (with_scope judged.outside.regions).live v
    global_lives e (Stored t r) p = heap_lives r p.within
    global_lives e (Arrayed t r) p = heap_lives r p.1.within
    global_lives e Counter p = tt
    global_lives e (Unknown sound) p = tt

    result_is : (t : StaticType) → F.gives ≡ t → ResultIs (block_entered judged.outside) entry_scope entry_names (renamed h F.gives) t
    result_is t e = subst (λ (u : StaticType). ResultIs (block_entered judged.outside) entry_scope entry_names (renamed h F.gives) u) e (record {
      shape = F.shape;
      below = type_up judged.outside.regions.count F.gives (subst (λ (n : ℕ). TypeBelow n F.gives) (sym count_is) judged.gives_below);
      run = renamed_alike s.regions h entry_names F.gives variables_alike judged.gives_below;
    })

    pub surrounds_entry : Surrounds d world tables (block_entered judged.outside) entry_scope entry_names (renamed h F.gives)
    surrounds_entry = record {
      tables_are = judged.tables_are;
      world_is = refl;
      structs = sources.structs;
      binds = record {
        variables = λ y u e.
            bound_as_alike 0 (judged.outside.regions.count + 1) (λ c. heap) entry_names (bound_to world.globals y) u
            (below_zero (judged.outside.regions.count + 1)) (type_zero (judged.outside.regions.count + 1)) heap_alike (sources.globals y u (sym (means y) ∙ e));
        live = λ y u e. global_lives (bound_to world.globals y) u (sources.globals y u (sym (means y) ∙ e));
        globals = λ y u e. sources.globals y u (subst (λ (t : typing.Tables). find t y ≡ Some (OfValue u)) judged.tables_are e);
      };
      plain = λ y e z. declared_means world y e (sources.structs.plain y e (sym (means y) ∙ z));
      functions = λ y c z. ap (λ (t : typing.Tables). find t y) judged.tables_are ∙ (sym (means y) ∙ z);
      result = λ t e. result_is t (let q : Some F.gives ≡ Some t = sym judged.result ∙ e in same_Some F.gives t q);
      strict = judged.strict;
      inside = judged.enclosing;
      frame = naming_itself h judged.outside.regions.count (Frame a);
      frame_lives = ap (λ (c : Bool). if c then true else judged.outside.regions.live (Level judged.outside.regions.count))
          (eq-eqb judged.outside.regions.count judged.outside.regions.count refl);
      frame_below = omega arith;
    }

-- the scene where the body begins
pub scene_entry : (d : Tables) (world : World) (tables : typing.Tables) (sources : Sources d world tables) (x : List ℕ) (s : Signature) (F : Function world x s)
    (judged : FunctionJudged world tables x s F) (h : NameOf → Region) (k : ℕ) (w : Ghost) (m : Memory) → Inv d w m → Globals d tables world w
    → (e : Enters s h k w m)
    → (top : Env) → Scene d (block_entered judged.outside) (entry_scope d world tables sources x s F judged h e.heap_is m.activations)
    (entry_names d world tables sources x s F judged h e.heap_is m.activations) m.activations m.activations
    (map (λ l. begins_as top l.what) judged.outside.locals) k
    (block_ghost w m) (block_memory m)
scene_entry d world tables sources x s F judged h k w m i globals enters top = record {
  names = names_scope d judged.outside.regions h k w m (m.activations + 1) m.births (Frame m.activations) i (frame_births d w m i)
      (subst (λ (r : Regions). NamesOk r h k w m) (sym judged.regions)
      (names_entered d h k w m i enters.heap_is enters.known s.regions s.effect s.bounds judged.effect_below judged.bounds_below enters.effect enters.bounds));
  base = omega arith;
  variables = λ y u e o.
      let there : find tables y ≡ Some (OfValue u) = sym (means d world tables sources x s F judged h enters.heap_is m.activations y) ∙ e in
      laid_as_later 0 d (λ c. heap) (naming h judged.outside.regions.count (Frame m.activations)) w (block_ghost w m) (bound_to world.globals y) u
      (heap_alike d world tables sources x s F judged h enters.heap_is m.activations) (sources.globals y u there) (λ p t l. l) (globals.named y u there);
  alongside = subst (λ (ls : List Local). Alongside ls []) (sym judged.locals) tt;
  rooms = tt;
  inside = tt;
  counted = tt;
  indices = λ y at e o.
      absurd (sources.structs.plain y (OfValue Counter) (sym (means d world tables sources x s F judged h enters.heap_is m.activations y) ∙ e));
  own = omega arith;
  begun = omega arith;
  below = subst (λ (ls : List Local). LocalsBelow (judged.outside.regions.count + 1) ls) (sym judged.locals) tt;
  stands = subst (λ (ls : List Local). standing.AllStand judged.outside.tables d (naming h judged.outside.regions.count (Frame m.activations)) ls []
      (map (λ l. begins_as top l.what) ls) (block_ghost w m) (block_memory m))
      (sym judged.locals) tt;
  globals = subst (λ (t : typing.Tables). Globals d t world (block_ghost w m)) (sym judged.tables_are)
      (globals_kept d tables world w (block_ghost w m) (λ p t l. l) globals);
}
