-- Calls do what Core does, of any depth and with recursion: by the fuel, of which each call takes a unit.
use Rattle.std.specs.Prelude.{nat_eq, length, slice_get, if◌then◌else◌}
use Rattle.rv32_machine.specs.Arrays.{longest_stack}
use Rattle.std.proofs.Common.{◌≡◌, ℕ, zero, suc, ◌+◌, ◌≤◌, Bool, true, false, List, [], ◌∷◌, Option, Some, None, refl, sym, ap, subst, arith, ⊎_elim, ◌<◌, inl}
use Rattle.std.proofs.Common.{inr, ◌*◌}
use Rattle.std.proofs.lemmas.Bool.{eqb-true, cases_lt, eq-eqb}
use Rattle.core_meaning.specs.Memory.{Content, Memory, Own, Dead, with_standing, Live, is_live}
use Rattle.core_meaning.specs.Core.{Function}
use Rattle.core_meaning.specs.Meaning as core
use Rattle.core_meaning.specs.Steps.{Config, Step, Exit, Falls, Breaks, Continues, Called, Returned, checked, stuck}
use Rattle.core_meaning.specs.Meaning.{with_objects, entered, left}
use Rattle.core_lines.specs.Machines.{Machine}
use Rattle.core_lines.specs.declared.line.Line.{Line}
use Rattle.core_lines.specs.Lines.{code_length}
use Rattle.core_lines.specs.Held.{with_taken}
use Rattle.core_lines.specs.Operands.{prologue_code}
use Rattle.core_lines.specs.Parameters.{parameter_registers}
use Rattle.core_lines.specs.Saved.{taken_in, live_at_start}
use Rattle.core_lines.proofs.memory.Relations.{World, IsInOrder, Has, Waiting, Goes, At, Calling, Returning, Back, active_of, keeping, slots_in}
use Rattle.core_lines.proofs.memory.Moving.{goes_as, goes_said, goes_stuck, goes_entered, goes_nowhere, Reach}
use Rattle.core_lines.proofs.frames.Entering.{with_call, callee, enters}
use Rattle.core_lines.proofs.frames.Ending.{is_back}
use Rattle.core_lines.proofs.operations.Registers.{AtHolding, at_any}
use Rattle.step_trees.specs.Trees.{Says}
use Rattle.core_lines.proofs.memory.Fitting.{below_end}
use Rattle.core_lines.specs.Homes.{saved_by, saved_slot}
use Rattle.core_lines.proofs.memory.Laying.{LaidOut}
use Rattle.core_lines.proofs.memory.Unnamed.{owning, owned_at}
use Rattle.core_lines.proofs.frames.Going.{with_config, BodyGoes, GoesReturning}

-- The activation of a function that is entered, with its temporary objects at these offsets, up to one, and those of its parameters in their slots that its
-- code loads from there.
abbrev pub activation : (w : World) (order : IsInOrder w) (f : ℕ) (fn : Function) → slice_get w.functions f ≡ Some fn → List Waiting → Memory → List Content
    → List ℕ → ℕ → Waiting
activation w order f fn is outer mem arguments offsets high =
    owning (callee w order f fn is outer mem arguments (live_at_start w.data_offsets fn) arguments) offsets high
    (with_objects (Own mem.calls) fn.own (with_call mem))

-- how it begins
abbrev pub prologue_of : World → ℕ → Function → ℕ → List Line
prologue_of w f fn parameters =
    prologue_code w.refused (w.frame_bytes f) fn.passed (saved_slot fn) (saved_by fn) (live_at_start w.data_offsets fn) (parameter_registers fn) parameters

-- What is asked of each function: its temporary objects lie behind its slots, in its frame; its prologue is at its label; and its statements, from behind the
-- prologue on, do as Core, where calls with less fuel do and the frame is no larger than the stack.
pub record FunctionDoes (w : World) (order : IsInOrder w) (f : ℕ) (fn : Function) : Type 0 where
  pub offsets : List ℕ
  pub high : ℕ
  pub laid : w.frame_bytes f ≤ longest_stack → LaidOut fn.own offsets (4 * slots_in fn) high × (high ≤ w.frame_bytes f)
  pub few : fn.parameters ≤ fn.temporaries
  pub prologue : Has w (w.places f) (prologue_of w f fn fn.parameters)
  pub does : (is : slice_get w.functions f ≡ Some fn) (most : ℕ) → w.frame_bytes f ≤ longest_stack → ((j : ℕ) → suc j ≤ most → (g : ℕ) → BodyGoes w j g)
      → (outer : List Waiting) (mem : Memory) (arguments : List Content) (next : Exit → Config → Step)
      → GoesReturning w (keeping [] (activation w order f fn is outer mem arguments offsets high)) outer most next
      → ((c : Config) → (next Falls c ≡ stuck) × (next Breaks c ≡ stuck) × (next Continues c ≡ stuck))
      → Goes w most (core.statements fn.body next (entered fn arguments mem))
      (AtHolding w (activation w order f fn is outer mem arguments offsets high) outer (entered fn arguments mem).memory
      (w.places f + code_length (prologue_of w f fn fn.parameters)) (taken_in fn))
      (w.names f ∷ active_of w outer)

module _ (w : World) (order : IsInOrder w) (each : (f : ℕ) (fn : Function) → slice_get w.functions f ≡ Some fn → FunctionDoes w order f fn) where
  -- the run ends with the activation, and goes on where it was called
  left_goes : (most f : ℕ) (fn : Function) (is : slice_get w.functions f ≡ Some fn) (outer : List Waiting) (mem : Memory) (arguments : List Content)
      (next : List Content → Memory → Step)
      → ((values : List Content) (m : Memory) → Goes w most (next values m) (Back w outer m values) (active_of w outer))
      → GoesReturning w (keeping [] (activation w order f fn is outer mem arguments (each f fn is).offsets (each f fn is).high)) outer most
      (left f mem.calls next)
  left_goes most f fn is outer mem arguments next goes c values isin =
      let x = with_config (keeping [] (activation w order f fn is outer mem arguments (each f fn is).offsets (each f fn is).high)) c in
      goes_said w (Returning w x outer c.memory values) (w.names f ∷ active_of w outer) (Returned f) refl (active_of w outer) (λ es. refl) most
      (next values (with_standing c.memory (Own mem.calls) Dead))
      (goes_as w _ (active_of w outer) most (next values (with_standing c.memory (Own mem.calls) Dead))
      (Back w outer (with_standing c.memory (Own mem.calls) Dead) values)
      (λ s r. subst (λ k. Back w outer (with_standing c.memory (Own k) Dead) values s) isin.own (is_back w order x outer c.memory refl isin.blocks values s r))
      (goes values (with_standing c.memory (Own mem.calls) Dead)))

  -- no frame is larger than the longest stack
  too_large : (x : Waiting) (outer : List Waiting) (mem : Memory) (place : ℕ) (s : Machine) → longest_stack < w.frame_bytes x.function
      → At w x outer mem place s → ⊥
  too_large x outer mem place s large a =
      let laid = a.stands.stacked.0 in
      let at = laid.there in
      let low = laid.low in
      let bytes = a.shows.bytes in
      let end = below_end w.areas (a.frame.at + a.frame.bytes) a.others a.stands.stacked.1 in
      let within = order.stack_within in
      absurd (omega (arith, at, low, bytes, end, large, within))

  body_goes : (most f : ℕ) (fn : Function) → slice_get w.functions f ≡ Some fn → ((j : ℕ) → suc j ≤ most → (g : ℕ) → BodyGoes w j g)
      → (arguments : List Content) (next : List Content → Memory → Step) (mem : Memory) (outer : List Waiting)
      → ((values : List Content) (m : Memory) → Goes w most (next values m) (Back w outer m values) (active_of w outer))
      → (count_is : Bool) → nat_eq (length arguments) fn.parameters ≡ count_is
      → Goes w most (checked count_is (Says (Called f) (core.statements fn.body (left f mem.calls next) (entered fn arguments mem))))
      (Calling w f outer mem arguments) (active_of w outer)
  body_goes most f fn is calls arguments next mem outer goes false e = goes_stuck w _ _ most
  body_goes most f fn is calls arguments next mem outer goes true e =
      let d = each f fn is in
      let as_many : length arguments ≡ fn.parameters = eqb-true (length arguments) fn.parameters e in
      let few = d.few in
      let prologue = subst (λ k. Has w (w.places f) (prologue_of w f fn k)) (sym as_many) d.prologue in
      let start = live_at_start w.data_offsets fn in
      let x = callee w order f fn is outer mem arguments start arguments in
      let y = activation w order f fn is outer mem arguments d.offsets d.high in
      let way = enters w order f fn is outer mem arguments start (omega (arith, as_many, few)) prologue in
      let place = w.places f + code_length (prologue_of w f fn (length arguments)) in
      let held = with_taken (parameter_registers fn) 0 (length arguments) [] in
      let R' = AtHolding w y outer (entered fn arguments mem).memory place held in
      let c = core.statements fn.body (left f mem.calls next) (entered fn arguments mem) in
      let body : Goes w most c R' (w.names f ∷ active_of w outer) =
      ⊎_elim
      (λ (large : longest_stack < w.frame_bytes f). goes_nowhere w R' (w.names f ∷ active_of w outer) most c
      (λ s a. too_large y outer (entered fn arguments mem).memory place s large (at_any w y outer (entered fn arguments mem).memory place held s a)))
      (λ (fits : w.frame_bytes f ≤ longest_stack).
      subst (λ k. Goes w most c (AtHolding w y outer (entered fn arguments mem).memory (w.places f + code_length (prologue_of w f fn k))
      (with_taken (parameter_registers fn) 0 k []))
      (w.names f ∷ active_of w outer)) (sym as_many)
      (d.does is most fits calls outer mem arguments (left f mem.calls next) (left_goes most f fn is outer mem arguments next goes) (λ c. (refl, refl, refl))))
      (cases_lt (longest_stack) (w.frame_bytes f)) in
      let live : is_live ((with_call mem).standing (Own mem.calls)) ≡ true =
      ap (λ b. is_live (if b then Live else mem.standing (Own mem.calls))) (eq-eqb mem.calls mem.calls refl) in
      let owns : (t : Machine) → mem.objects (Own mem.calls) ≡ 0 → AtHolding w x outer (with_call mem) place held t → R' t =
      λ t none a. ⊎_elim
      (λ (large : longest_stack < w.frame_bytes f). absurd (too_large x outer (with_call mem) place t large (at_any w x outer (with_call mem) place held t a)))
      (λ (fits : w.frame_bytes f ≤ longest_stack). let l = d.laid fits in
      owned_at w order x outer d.offsets d.high (with_call mem) place held t refl refl l.0 l.1 none live a)
      (cases_lt (longest_stack) (w.frame_bytes f)) in
      goes_entered w (Calling w f outer mem arguments) R' (active_of w outer) most f way.0 c
      (λ s r. ⊎_elim
      (λ (reach : Reach w.areas way.0 (AtHolding w x outer (with_call mem) place held) s).
      inl (record { next = reach.next; moves = reach.moves; there = owns reach.next ((r.stands.known.uncalled mem.calls (omega arith)).1) reach.there }))
      (λ full. inr full)
      (way.1 s r))
      body

  call_of : (most f : ℕ) → ((j : ℕ) → suc j ≤ most → (g : ℕ) → BodyGoes w j g) → (found : Option Function) → slice_get w.functions f ≡ found
      → (arguments : List Content) (next : List Content → Memory → Step) (mem : Memory) (outer : List Waiting)
      → ((values : List Content) (m : Memory) → Goes w most (next values m) (Back w outer m values) (active_of w outer))
      → Goes w most (core.body_of found f arguments next mem) (Calling w f outer mem arguments) (active_of w outer)
  call_of most f calls None e arguments next mem outer goes = goes_stuck w _ _ most
  call_of most f calls (Some fn) e arguments next mem outer goes =
      body_goes most f fn e calls arguments next mem outer goes (nat_eq (length arguments) fn.parameters) refl

  bodies_below : (bound most : ℕ) → suc most ≤ bound → (f : ℕ) → BodyGoes w most f
  bodies_below zero most less f = absurd (omega (arith, less))
  bodies_below (suc bound) most less f =
      call_of most f (λ j fewer g. bodies_below bound j (omega (arith, less, fewer)) g) (slice_get w.functions f) refl

  -- Each function does as Core at any amount of fuel, whatever calls itself or another.
  pub bodies_go : (most f : ℕ) → BodyGoes w most f
  bodies_go most f = bodies_below (suc most) most (omega arith) f
