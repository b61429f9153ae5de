-- Runs that show the same, a step at a time.
use Rattle.std.proofs.Common.{◌≡◌, ℕ, zero, suc, ◌≤◌, ◌⊎◌, inl, inr, ⊎_elim, List, [], ◌∷◌, ◌++◌, Option, Some, None, refl, ap, arith}
use Rattle.cyc_words.specs.Events as events
use Rattle.cyc_words.specs.Events.{AreBytes, SourceEvent, SourceEnding}
use Rattle.step_trees.specs.Trees.{Stops, Says, Reads, Pays, Calls, Turns, run}
use Rattle.source_meaning.specs.Memory as source
use Rattle.source_meaning.specs.Memory.{Scalar}
use Rattle.source_meaning.specs.Steps as steps
use Rattle.source_meaning.specs.Steps.{World, Flow}
use Rattle.source_meaning.specs.Programs.{source_bodies, entered, turned}
use Rattle.core_meaning.specs.Memory as core
use Rattle.core_meaning.specs.Memory.{Content}
use Rattle.core_meaning.specs.Core.{Program, Statement, Statements, MoreStatements}
use Rattle.core_meaning.specs.Steps as core_steps
use Rattle.core_meaning.specs.Steps.{Config, Exit}
use Rattle.core_meaning.specs.Meaning as meaning
use Rattle.source_lowering.specs.Lowered.{put}
use Rattle.source_lowering.specs.Simulation.{SameEvent, BothVisible, SameOutcome, IsByte, Same}

-- what holds of the outcomes at so much fuel
abbrev Alike : World → Program → ℕ → List ℕ → steps.Step → core_steps.Step → Type 0
Alike w fs k input s c = ((run source_bodies k s input).ending ≡ SourceEnding.Stuck) ⊎ SameOutcome w (run source_bodies k s input)
    (run (meaning.bodies fs) k c input)

pub stuck_same : (w : World) (fs : Program) (n : ℕ) (c : core_steps.Step) → Same w fs n (Stops SourceEnding.Stuck) c
stuck_same w fs n c = record { at = λ k h input bytes. inl refl }

pub stops_same : (w : World) (fs : Program) (n : ℕ) (e : SourceEnding) → Same w fs n (Stops e) (Stops e)
stops_same w fs n e = record { at = λ k h input bytes. inr (record { events = tt; ending = refl }) }

pub says_same : (w : World) (fs : Program) (n : ℕ) (e : SourceEvent) (f : core_steps.Event) (s : steps.Step) (c : core_steps.Step) → SameEvent w e f
    → Same w fs n s c → Same w fs n (Says e s) (Says f c)
says_same w fs n e f s c one same = record {
  at = λ k h input bytes.
      ⊎_elim (λ (z : (run source_bodies k s input).ending ≡ SourceEnding.Stuck). inl z)
      (λ (o : SameOutcome w (run source_bodies k s input) (run (meaning.bodies fs) k c input)). inr (record { events = (one, o.events); ending = o.ending }))
      (same.at k h input bytes);
}

pub reads_same : (w : World) (fs : Program) (n : ℕ) (s : Option ℕ → steps.Step) (c : Option ℕ → core_steps.Step)
    → ((b : Option ℕ) → IsByte b → Same w fs n (s b) (c b)) → Same w fs n (Reads s) (Reads c)
reads_same w fs n s c same = record { at = read }
  where
    seen : (k : ℕ) (b : Option ℕ) (input : List ℕ) → Alike w fs k input (s b) (c b) → Alike w fs k input (Says (events.Visible (events.ByteRead b)) (s b))
        (Says (core_steps.read_event b) (c b))
    seen k b input one =
        ⊎_elim (λ (z : (run source_bodies k (s b) input).ending ≡ SourceEnding.Stuck). inl z)
        (λ (o : SameOutcome w (run source_bodies k (s b) input) (run (meaning.bodies fs) k (c b) input)). inr (record
        { events = (BothVisible (events.ByteRead b), o.events); ending = o.ending }))
        one

    read : (k : ℕ) → k ≤ n → (input : List ℕ) → AreBytes input → Alike w fs k input (Reads s) (Reads c)
    read k h [] bytes = seen k None [] ((same None tt).at k h [] tt)
    read k h (b ∷ input) bytes = seen k (Some b) input ((same (Some b) bytes.0).at k h input bytes.1)

-- what is due at the next unit is the same with a unit less
pub pays_same : (w : World) (fs : Program) (n : ℕ) (s : source.Memory → steps.Step) (m : source.Memory) (c : Config → core_steps.Step) (state : Config)
    → ((j : ℕ) → suc j ≤ n → Same w fs j (s m) (c state)) → Same w fs n (Pays s m) (Pays c state)
pays_same w fs n s m c state same = record { at = paid }
  where
    paid : (k : ℕ) → k ≤ n → (input : List ℕ) → AreBytes input → Alike w fs k input (Pays s m) (Pays c state)
    paid zero h input bytes = inr (record { events = tt; ending = refl })
    paid (suc j) h input bytes = (same j h).at j (omega arith) input bytes

pub calls_same : (w : World) (fs : Program) (n : ℕ) (call : steps.Invocation) (s : List Scalar → source.Memory → steps.Step) (m : source.Memory)
    (other : core_steps.Invocation) (c : List Content → core.Memory → core_steps.Step) (memory : core.Memory)
    → ((j : ℕ) → suc j ≤ n → Same w fs j (entered call.routine call.world call.arguments s m) (meaning.called fs.functions other c memory))
    → Same w fs n (Calls call s m) (Calls other c memory)
calls_same w fs n call s m other c memory same = record { at = paid }
  where
    paid : (k : ℕ) → k ≤ n → (input : List ℕ) → AreBytes input → Alike w fs k input (Calls call s m) (Calls other c memory)
    paid zero h input bytes = inr (record { events = tt; ending = refl })
    paid (suc j) h input bytes = (same j h).at j (omega arith) input bytes

pub turns_same : (w : World) (fs : Program) (n : ℕ) (turn : steps.LoopTurn) (s : Flow → source.Memory → steps.Step) (m : source.Memory)
    (other : core_steps.LoopTurn) (c : Exit → Config → core_steps.Step) (state : Config) → ((j : ℕ) → suc j ≤ n
    → Same w fs j (turned turn.condition turn.body turn.scope s m) (meaning.turned other c state)) → Same w fs n (Turns turn s m) (Turns other c state)
turns_same w fs n turn s m other c state same = record { at = paid }
  where
    paid : (k : ℕ) → k ≤ n → (input : List ℕ) → AreBytes input → Alike w fs k input (Turns turn s m) (Turns other c state)
    paid zero h input bytes = inr (record { events = tt; ending = refl })
    paid (suc j) h input bytes = (same j h).at j (omega arith) input bytes

pub less_fuel : (w : World) (fs : Program) (n k : ℕ) (s : steps.Step) (c : core_steps.Step) → k ≤ n → Same w fs n s c → Same w fs k s c
less_fuel w fs n k s c h same = record { at = λ j g input bytes. same.at j (omega (arith, h, g)) input bytes }

-- code after code
pub put_all : (xs ys : List Statement) (rest : Statements) → put (xs ++ ys) rest ≡ put xs (put ys rest)
put_all [] ys rest = refl
put_all (x ∷ xs) ys rest = ap (λ z. MoreStatements x z) (put_all xs ys rest)
