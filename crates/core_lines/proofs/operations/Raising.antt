-- What the code of a raise does: the run is over, with the exception.
use Rattle.std.proofs.Common.{◌≡◌, ℕ, pos, ◌+◌, ◌^◌, ◌<◌, inl, List, [], ◌∷◌, refl, sym, ap, subst, ◌∙◌, arith}
use Rattle.cyc_words.specs.declared.faults.Kind.{Kind}
use Rattle.cyc_words.specs.declared.faults.Kind.TheVariants.{NullException, ArrayBounds}
use Rattle.cyc_words.specs.Events.{SourceEnding}
use Rattle.cyc_words.specs.Words.{word, sum_of}
use Rattle.rv32_isa.specs.declared.instruction.Instr.TheVariants.{Addi, Ecall}
use Rattle.rv32_machine.specs.State.{State, Over, Stop}
use Rattle.rv32_machine.specs.Step.{raises, stop}
use Rattle.rv32_machine.specs.Run.{Run}
use Rattle.step_trees.specs.Trees.{Stops}
use Rattle.core_meaning.specs.Memory.{Memory}
use Rattle.core_lines.specs.declared.line.Line.TheVariants.{Plain}
use Rattle.core_lines.specs.Machines.{Machine, state_of}
use Rattle.core_lines.specs.Frames.{environment_code, kind_number, raise_code}
use Rattle.core_lines.specs.Lies.{Maps}
use Rattle.core_lines.proofs.memory.Relations.{World, IsInOrder, Has, Waiting, At, Moves, Goes}
use Rattle.core_lines.proofs.memory.Moving.{Comes, Reach, comes_then, comes_as, goes_from, by_stop}
use Rattle.core_lines.proofs.Steps.{is_lawful}
use Rattle.core_lines.proofs.frames.Passing.{has_first, has_second}
use Rattle.core_lines.proofs.operations.Registers.{AtWith, at_with, puts}
use Rattle.core_lines.proofs.Streams.{numbered, now, here, call_is}

kind_below : (kind : Kind) → kind_number kind < 2 ^ 32
kind_below NullException = omega arith
kind_below ArrayBounds = omega arith

raises_kind : (kind : Kind) (s : State) → raises (kind_number kind) s ≡ stop (Stop.Raised kind) s
raises_kind NullException s = refl
raises_kind ArrayBounds s = refl

module _ (w : World) (order : IsInOrder w) (x : Waiting) (outer : List Waiting) (mem : Memory) where
  abbrev Free : Maps → (ℕ → ℕ) → Type 0
  Free m registers = Unit {0}

  -- a number is the call's argument
  abbrev Argument : ℕ → Maps → (ℕ → ℕ) → Type 0
  Argument n m registers = registers 10 ≡ n

  abbrev Called : ℕ → Maps → (ℕ → ℕ) → Type 0
  Called n m registers = (registers 17 ≡ 3) × Argument n m registers

  argument_into : (n place : ℕ) → n < 2 ^ 32 → Has w place (Plain (Addi 10 0 (pos n)) ∷ [])
      → Comes w (At w x outer mem place) (AtWith w x outer mem (place + 4) (Argument n))
  argument_into n place small has =
      comes_then w _ (AtWith w x outer mem place Free) _ (comes_as w _ _ (at_with w order x outer mem place))
      (puts w order x outer mem 9 place Free (Argument n) (Addi 10 0 (pos n)) (λ registers. sum_of 0 (word (pos n))) refl has.0.0
      (λ r b st a. refl) (λ _. tt) (λ m registers h. omega (arith, small)))

  -- the machine stops
  stops_with : (kind : Kind) (place : ℕ) → Has w place (Plain Ecall ∷ []) → (s : Machine) → AtWith w x outer mem place (Called (kind_number kind)) s
      → Reach w.areas 1 (λ t. t.mode ≡ Over (Stop.Raised kind)) s
  stops_with kind place has s a =
      let P = Argument (kind_number kind) in
      let before = now w order x outer mem place has P 3 s a in
      let last = record before { mode = Over (Stop.Raised kind) } in
      record {
        next = last;
        moves = subst (λ (q : Machine). Moves w.areas 1 q last) (sym (here w order x outer mem place has P 3 s a))
            (by_stop w.areas before last refl (Stop.Raised kind)
            (λ answer. call_is w order x outer mem place has P 3 s a answer ∙ ap (λ n. raises n (state_of before)) a.holds.1
            ∙ raises_kind kind (state_of before))
            (is_lawful w.areas w.code order.code_within s.store place s.registers s.bytes a.stands.kept Ecall has.0.0 tt));
        there = refl;
      }

  -- the run is over, where the machine stops with the kind by one step
  over_goes : (most : ℕ) (kind : Kind) (R : Machine → Type 0) (active : List (List ℕ))
      → ((s : Machine) → R s → Reach w.areas 1 (λ t. t.mode ≡ Over (Stop.Raised kind)) s) → Goes w most (Stops (SourceEnding.Raised kind)) R active
  over_goes most kind R active stops = record {
    at = λ fuel within input bytes. record {
      count = 1;
      leads = λ s answers r. let e = stops s r in inl (record {
        events = ap (λ (q : Run). q.events) (e.moves.moved input answers []);
        ends = ap (λ (q : Run). q.state.mode) (e.moves.moved input answers []) ∙ e.there;
      });
      paid = λ running. cc running;
      lawful = λ s answers r. (stops s r).moves.lawful input answers [];
    };
  }

  -- a raise ends the run
  pub raise_goes : (most : ℕ) (kind : Kind) (place : ℕ) (active : List (List ℕ)) → Has w place (raise_code kind)
      → Goes w most (Stops (SourceEnding.Raised kind)) (At w x outer mem place) active
  raise_goes most kind place active has =
      let n = kind_number kind in
      let has_first_part = has_first w place (Plain (Addi 10 0 (pos n)) ∷ []) (environment_code 3) has in
      let has_call = has_second w place (Plain (Addi 10 0 (pos n)) ∷ []) (environment_code 3) has in
      let way : Comes w (At w x outer mem place) (AtWith w x outer mem (place + 4 + 4) (Called n)) =
      comes_then w _ _ _ (argument_into n place (kind_below kind) has_first_part)
      (numbered w order x outer mem 3 (place + 4) (Argument n) (omega arith) has_call (λ m registers v h. h)) in
      goes_from w _ active most (Stops (SourceEnding.Raised kind)) _ way
      (over_goes most kind (AtWith w x outer mem (place + 4 + 4) (Called n)) active (λ s a. stops_with kind (place + 4 + 4) has_call.2 s a))
