use Rattle.std.proofs.Common.{◌≡◌, ℕ, ◌+◌, ◌⊎◌, false, true, List}
use Rattle.rv32_machine.specs.Arrays.{areas_of, arrays, state_of}
use Rattle.rv32_machine.specs.State.{State, Runs}
use Rattle.rv32_machine.specs.Served.{lacks}
use Rattle.cyc_host.specs.Watched.{AreTakenIn}
use Rattle.cyc_host.proofs.Progress.{Progress}
use Rattle.cyc_host.proofs.running.run_at.Given as goal

abbrev pub invariant-steps : goal.invariant-steps
invariant-steps g l =
    let seen = arrays g.S.BlockStore.holdings g.S.BlockStore.byte_at in
    record {
      count : ℕ;
      states : List State;
      counted : count + l.left ≡ l.steps;
      reads : g.R.Input.fault_count l.reader ≡ g.R.Input.fault_count l.fn.reader;
      writes : g.W.Output.fault_count l.writer ≡ g.W.Output.fault_count l.fn.writer;
      areas : areas_of (seen l.machine) ≡ areas_of (seen l.fn.machine);
      memory : g.S.BlockStore.may_lack ≡ false → lacks (seen l.fn.machine).mode ≡ false → lacks (seen l.machine).mode ≡ false;
      going : (count ≡ 0) ⊎ ((state_of (seen l.machine)).mode ≡ Runs);
      progress : Progress (areas_of (seen l.fn.machine)) (state_of (seen l.fn.machine)) count l.is_over (state_of (seen l.machine))
          (g.R.Read.remaining l.fn.reader) (g.R.Read.remaining l.reader) (g.W.Write.contents l.fn.writer) (g.W.Write.contents l.writer) l.gathered states;
      saw : g.P.Pace.sees l.fn.pace ≡ true → (g.P.Pace.sees l.pace ≡ true)
          × AreTakenIn states (g.P.Pace.tally l.fn.pace) (g.P.Pace.tally l.pace) (g.P.Pace.known l.fn.pace) (g.P.Pace.known l.pace);
    }

abbrev pub decreases-steps : goal.decreases-steps
decreases-steps g l = l.left
