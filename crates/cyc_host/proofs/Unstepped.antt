-- A run that may make no step reads nothing and leaves the machine as it is.
use Rattle.std.proofs.Common.{◌≡◌, ℕ, List, [], Option, inl, inr, ap, sym, subst, ◌∙◌, arith}
use Rattle.std.specs.Io.KnownBytes.{Consumes}
use Rattle.rv32_machine.specs.State.{State, Areas}
use Rattle.rv32_machine.specs.Run.{Run, run_steps, from}
use Rattle.cyc_host.specs.Hosted.{EndsAs, IsHosted}
use Rattle.cyc_host.specs.declared.ending.Ending.{Ending}
use Rattle.cyc_host.specs.declared.ending.Ending.TheVariants as ending

module _ (n : Areas) (old : State) where
  stays : (why : Ending) (left : Run) (now : State) → EndsAs why n 0 0 left now → now ≡ left.state
  stays (ending.Ended status) left now e = e.0
  stays (ending.Raised kind) left now e = e.0
  stays ending.Exhausted left now e = e.0
  stays ending.HostMemory left now e = e.0
  stays (ending.Fault fault) left now e = e.0
  stays ending.StepLimit left now e = e.0
  stays ending.ReadFault left now e = absurd (omega (arith, e.0))
  stays ending.WriteFault left now (inl same) = same
  stays ending.WriteFault left now (inr made) = absurd (omega (arith, made.0))

  module _ {why : Ending} {new : State} {reader_old reader_new writer_old writer_new : Option (List ℕ)}
      (x : IsHosted why n 0 old new reader_old reader_new writer_old writer_new) where
    no_steps : x.count ≡ 0
    no_steps = omega (arith, x.within)

    pub machine_stays : new ≡ old
    machine_stays = stays why (from old x.input x.answers) new
        (subst (λ (k : ℕ). EndsAs why n 0 k (run_steps n k (from old x.input x.answers)) new) no_steps x.ends)

    pub nothing_is_read : Consumes reader_old reader_new []
    nothing_is_read = subst (Consumes reader_old reader_new) (ap (λ k. (run_steps n k (from old x.input x.answers)).input) (sym no_steps) ∙ x.taken) x.given

    pub reads_none : why ≡ ending.ReadFault → ⊥
    reads_none e = absurd (omega (arith, (subst (λ (k : Ending). EndsAs k n 0 x.count (run_steps n x.count (from old x.input x.answers)) new) e x.ends).0))
