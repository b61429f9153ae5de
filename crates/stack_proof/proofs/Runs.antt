-- In each run the active functions are a path of calls, whose frames fit what the first of them fits.
use Rattle.std.proofs.Common.{◌≡◌, ℕ, zero, suc, ◌+◌, ◌≤◌, Option, Some, None, List, [], ◌∷◌, ◌++◌, refl, subst, arith}
use Rattle.std.specs.Prelude.{codes}
use Rattle.std.specs.List.{AllByRecursion, Contains}
use Rattle.std.proofs.lemmas.List.Elements.{Contains-append_right}
use Rattle.cyc_words.specs.Events.{SourceEvent, Visible, Called, Returned}
use Rattle.cyc_tree.specs.Tree.{Program}
use Rattle.step_trees.specs.Trees.{Stops, Says, Reads, Pays, Calls, Turns, Outcome, walk, spend}
use Rattle.source_meaning.specs.Memory.{Memory, Scalar}
use Rattle.source_meaning.specs.Steps.{World, Routine, LoopTurn, Flow, Step, ◌>>=◌, need}
use Rattle.source_meaning.specs.Conversions.{one, integer}
use Rattle.source_meaning.specs.Calls.{function_of}
use Rattle.source_meaning.specs.Programs.{world_of, entered, turned, source_bodies, first_memory, start}
use Rattle.source_meaning.specs.Callees.{expression_callees, statement_callees, items_callees}
use Rattle.rv32_machine.specs.Implements.{active_after, frames}
use Rattle.stack_proof.specs.Fits.{Fits, Leaves, ProgramFits}
use Rattle.stack_proof.specs.Laws.{StackSuffices}
use Rattle.source_meaning.proofs.Kept.{Property, one_keeps, integer_keeps}
use Rattle.source_meaning.proofs.Forms.{body_keeps, turned_keeps, globals_keep}

-- the active functions after a return
abbrev left_by : List (List ℕ) → List (List ℕ)
left_by [] = []
left_by (f ∷ active) = active

-- what holds of each element holds of all
all_of : {X : Type 0} (Q : X → Type 0) (xs : List X) → ((x : X) → Contains xs x → Q x) → AllByRecursion Q xs
all_of Q [] h = tt
all_of Q (x ∷ xs) h = (h x (0, omega arith, refl), all_of Q xs (λ y has. h y (Contains-append_right (x ∷ []) xs y has)))

module _ (bound : List ℕ → ℕ) (n : ℕ) where
  -- the function of a name fits so many bytes, where there is one
  abbrev CalleeFits : ℕ → World → List ℕ → Type 0
  CalleeFits room w name = (g : Routine) → function_of w.functions name ≡ Some g → Fits bound w g room

  -- a function fits what the active ones leave
  record MayEnter (active : List (List ℕ)) (w : World) (f : Routine) : Type 0 where
    room : ℕ
    fits : Fits bound w f room
    left : frames bound active + room ≤ n

  -- and so do all that a turn of a loop calls
  record MayTurn (active : List (List ℕ)) (turn : LoopTurn) : Type 0 where
    room : ℕ
    fit : AllByRecursion (CalleeFits room turn.scope.world) (expression_callees turn.condition ++ statement_callees turn.body)
    left : frames bound active + room ≤ n

  -- each call in these steps, from where these functions are active, fits what is left
  abbrev AreWithin : List (List ℕ) → Step → Type 0
  AreWithin active (Stops ending) = Unit {0}
  AreWithin active (Says (Visible event) step) = AreWithin active step
  AreWithin active (Says (Called f) step) = (frames bound (f ∷ active) ≤ n) × AreWithin (f ∷ active) step
  AreWithin active (Says (Returned f) step) = AreWithin (left_by active) step
  AreWithin active (Reads next) = (byte : Option ℕ) → AreWithin active (next byte)
  AreWithin active (Pays next m) = AreWithin active (next m)
  AreWithin active (Calls call next m) = MayEnter active call.world call.routine × ((vs : List Scalar) (later : Memory) → AreWithin active (next vs later))
  AreWithin active (Turns turn next m) = MayTurn active turn × ((flow : Flow) (later : Memory) → AreWithin active (next flow later))

  -- in a body whose callees fit so many bytes
  abbrev within : (active : List (List ℕ)) (room : ℕ) → frames bound active + room ≤ n → Property
  within active room le = record {
    Has = AreWithin active;
    MayCall = CalleeFits room;
    stops = λ ending. tt;
    says = λ event silent s h. h;
    pays = λ next m h. h;
    reads = λ next m h. h;
    writes = λ byte next m h. h;
    calls = λ w name f is may arguments next m h. (record { room = room; fits = may f is; left = le }, h);
    turns = λ turn c next m h. (record { room = room; fit = c; left = le }, h);
  }

  -- ---- calls and turns

  -- a call that fits is seen, its body fits, and so does what follows its return
  fitting_is_within : {w : World} {f : Routine} {room : ℕ} → Fits bound w f room → (active : List (List ℕ)) → frames bound active + room ≤ n
      → (arguments : List (List Scalar)) (next : List Scalar → Memory → Step) (m : Memory)
      → ((vs : List Scalar) (later : Memory) → AreWithin active (next vs later)) → AreWithin active (entered f w arguments next m)
  fitting_is_within {w = w} {f = f} (Leaves others le callees) active left arguments next m h = (
    omega arith,
    (body_keeps (within (f.name ∷ active) others (omega arith)) f w arguments
        (all_of (CalleeFits others w) (items_callees f.body) (λ name has g is. callees name g has is))).go _ m h,
  )

  entered_is_within : (active : List (List ℕ)) (w : World) (f : Routine) → MayEnter active w f → (arguments : List (List Scalar))
      (next : List Scalar → Memory → Step) (m : Memory) → ((vs : List Scalar) (later : Memory) → AreWithin active (next vs later))
      → AreWithin active (entered f w arguments next m)
  entered_is_within active w f may = fitting_is_within may.fits active may.left

  turned_is_within : (active : List (List ℕ)) (turn : LoopTurn) → MayTurn active turn → (next : Flow → Memory → Step) (m : Memory)
      → ((flow : Flow) (later : Memory) → AreWithin active (next flow later)) → AreWithin active (turned turn.condition turn.body turn.scope next m)
  turned_is_within active turn may next m h =
      (turned_keeps (within active may.room may.left) turn.condition turn.body turn.scope may.fit).go next m h

  -- ---- what is seen

  -- each call among these events, after which these functions are active, fits
  abbrev EventsFit : List (List ℕ) → List SourceEvent → Type 0
  EventsFit active [] = Unit {0}
  EventsFit active (Visible event ∷ events) = EventsFit active events
  EventsFit active (Called f ∷ events) = (frames bound (f ∷ active) ≤ n) × EventsFit (f ∷ active) events
  EventsFit active (Returned f ∷ events) = EventsFit (left_by active) events

  -- steps with which all is seen within
  abbrev ShowsFit : (Step → List ℕ → Outcome SourceEvent) → Type 0
  ShowsFit rest = (active : List (List ℕ)) (step : Step) (input : List ℕ) → AreWithin active step → EventsFit active (rest step input).events

  walk_shows : (rest : Step → List ℕ → Outcome SourceEvent) → ShowsFit rest → ShowsFit (walk source_bodies rest)
  walk_shows rest k active (Stops ending) input h = tt
  walk_shows rest k active (Says (Visible event) step) input h = walk_shows rest k active step input h
  walk_shows rest k active (Says (Called f) step) input h = (h.0, walk_shows rest k (f ∷ active) step input h.1)
  walk_shows rest k active (Says (Returned f) step) input h = walk_shows rest k (left_by active) step input h
  walk_shows rest k active (Reads next) [] h = walk_shows rest k active (next None) [] (h None)
  walk_shows rest k active (Reads next) (b ∷ input) h = walk_shows rest k active (next (Some b)) input (h (Some b))
  walk_shows rest k active (Pays next m) input h = k active (next m) input h
  walk_shows rest k active (Calls call next m) input h =
      k active _ input (entered_is_within active call.world call.routine h.0 call.arguments next m h.1)
  walk_shows rest k active (Turns turn next m) input h = k active _ input (turned_is_within active turn h.0 next m h.1)

  spend_shows : (fuel : ℕ) → ShowsFit (spend source_bodies fuel)
  spend_shows zero active step input h = tt
  spend_shows (suc fuel) active step input h = walk_shows (spend source_bodies fuel) (spend_shows fuel) active step input h

  -- ---- the whole run

  main_is_within : (w : World) (found : Option Routine) → ((f : Routine) → found ≡ Some f → Fits bound w f n) → (next : ℕ → Memory → Step) (m : Memory)
      → ((status : ℕ) (later : Memory) → AreWithin [] (next status later))
      → AreWithin [] ((need found >>= λ f. entered f w [] >>= one >>= integer) next m)
  main_is_within w None fits next m h = tt
  main_is_within w (Some f) fits next m h =
      let P = within [] 0 (omega arith) in
      entered_is_within [] w f (record { room = n; fits = fits f refl; left = omega arith }) [] _ m
      (λ vs m1. (one_keeps P vs).go _ m1 (λ v m2. (integer_keeps P v).go next m2 h))

  start_is_within : (p : Program) → ProgramFits bound p n → AreWithin [] (start p)
  start_is_within p fits =
      (globals_keep (within [] 0 (omega arith)) (world_of p) p 0).go _ (first_memory p)
      (λ a m. main_is_within (world_of p) (function_of (world_of p).functions (codes "main"))
      (λ f is. subst (λ (g : Routine). Fits bound (world_of p) g n) (same_main f is) fits.fits) _ m (λ status later. tt))
    where
      same_main : (f : Routine) → function_of (world_of p).functions (codes "main") ≡ Some f → fits.main ≡ f
      same_main f is = let found : function_of (world_of p).functions (codes "main") ≡ Some fits.main = fits.found in cc

  -- at a split of events that fit, the call fits
  at_split : (before : List SourceEvent) (active : List (List ℕ)) (name : List ℕ) (rest : List SourceEvent)
      → EventsFit active (before ++ Called name ∷ rest) → frames bound (name ∷ active_after active before) ≤ n
  at_split [] active name rest h = h.0
  at_split (Visible e ∷ before) active name rest h = at_split before active name rest h
  at_split (Called f ∷ before) active name rest h = at_split before (f ∷ active) name rest h.1
  at_split (Returned f ∷ before) [] name rest h = at_split before [] name rest h
  at_split (Returned f ∷ before) (g ∷ active) name rest h = at_split before active name rest h

pub stack_suffices : StackSuffices
stack_suffices bound p n fits input fuel before name rest split =
    at_split bound n before [] name rest
    (subst (λ (events : List SourceEvent). EventsFit bound n [] events) split
    (walk_shows bound n (spend source_bodies fuel) (spend_shows bound n fuel) [] (start p) input (start_is_within bound n p fits)))
