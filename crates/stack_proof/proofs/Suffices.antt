-- What follows where the stack suffices: no run is out of stack, and what is cut is a request.
use Rattle.std.proofs.Common.{◌≡◌, ℕ, List, [], ◌∷◌, ◌++◌, inl, inr, arith, subst}
use Rattle.cyc_words.specs.Events.{SourceEvent, Visible, Called, Returned, MachineEnding}
use Rattle.cyc_tree.specs.Tree.{Program}
use Rattle.source_meaning.specs.Programs.{source}
use Rattle.rv32_machine.specs.Run.{from, run_steps}
use Rattle.rv32_machine.specs.Implements.{AgreesIn, HasNoFrame, active_after}
use Rattle.stack_proof.specs.Laws.{CutsAreRequests, FitsStack, NeverOutOfStack, RoomIsPages}
use Rattle.stack_proof.proofs.Runs.{stack_suffices}

-- no event of a run is a call that has no frame
has_frame : (bound : List ℕ → ℕ) (p : Program) (stack : ℕ) → FitsStack bound p stack → (input : List ℕ) (fuel : ℕ)
    (before : List SourceEvent) (next : SourceEvent) (rest : List SourceEvent) → (source p input fuel).events ≡ before ++ next ∷ rest
    → HasNoFrame bound stack (active_after [] before) next → ⊥
has_frame bound p stack fits input fuel before (Called name) rest split none =
    let le = stack_suffices bound p fits.bytes fits.fits input fuel before name rest split in omega (arith, fits.enough, none)
has_frame bound p stack fits input fuel before (Visible e) rest split none = none
has_frame bound p stack fits input fuel before (Returned name) rest split none = none

pub never_out_of_stack : NeverOutOfStack
never_out_of_stack bound p n s input fits does answers count = λ is.
    let at = does.each_run answers count in
    let r = run_steps n count (from s input answers) in
    let cut = subst (λ (e : MachineEnding). AgreesIn bound n e r.events (source p input at.0).events (source p input at.0).ending) is at.1 in
    has_frame bound p n.stack fits input at.0 cut.before cut.next cut.rest cut.split cut.because

pub room_is_pages : RoomIsPages
room_is_pages bound p count stack input fuel fits pages = λ before next rest split.
    (pages before next rest split, has_frame bound p stack fits input fuel before next rest split)

pub cuts_are_requests : CutsAreRequests
cuts_are_requests bound p stack input fuel shown fits cut = record {
  before = cut.before;
  next = cut.next;
  rest = cut.rest;
  split = cut.split;
  same = cut.same;
  because = elim cut.because [
    | inl request ↦ request
    | inr none ↦ absurd (has_frame bound p stack fits input fuel cut.before cut.next cut.rest cut.split none)
  ];
}
