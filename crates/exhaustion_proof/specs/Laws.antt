-- Believed: where a run is exhausted.
use Rattle.std.specs.Prelude.{◌≡◌, ◌≢◌, ℕ, ◌<◌, ◌≤◌, ◌⊎◌, true, List, ◌∷◌, ◌++◌}
use Rattle.cyc_words.specs.Events.{Event, SourceEvent, Visible, visible}
use Rattle.arena_laws.specs.Counts.{block_limit}
use Rattle.arena_laws.specs.Holdings.{fresh}
use Rattle.arena_laws.specs.Lawful.{Answer}
use Rattle.rv32_machine.specs.State.{State, Areas, Stop, Over}
use Rattle.rv32_machine.specs.Step.{step}
use Rattle.rv32_machine.specs.Run.{Run, run_steps, from}
use Rattle.rv32_machine.specs.Shortage.{IsShortage, asked_at}
use Rattle.rv32_machine.specs.Implements.{Meaning, Implements, Reaches}
use Rattle.exhaustion_proof.specs.Room.{HasRoom, is_refused_after}

-- in each of `count` steps the store refuses for lack of space exactly where its counts do
abbrev pub AreExact : Areas → ℕ → Run → Type 0
AreExact n count r =
    (k : ℕ) → k < count → let now = run_steps n k r in IsShortage n (asked_at n now.state) now.state.holdings (step n (now.answers 0) now.state).shown

-- with more fuel, what was seen with less is seen first
abbrev pub IsGrowing : Meaning → Type 0
IsGrowing m = (n k : ℕ) → n ≤ k → (others : List SourceEvent) × (m.events k ≡ m.events n ++ others)

-- where no event of the meaning wants more pages or more stack than there is, a run isn't exhausted
abbrev pub NeverExhausted : (List ℕ → ℕ) → Areas → State → List ℕ → Meaning → Type 0
NeverExhausted bound n s input m =
    ((fuel : ℕ) → HasRoom bound n.pages n.stack (m.events fuel)) → (answers : ℕ → Answer) (count : ℕ) → AreExact n count (from s input answers)
    → (run_steps n count (from s input answers)).state.mode ≢ Over Stop.Exhausted

-- Where the meaning's first event that wants more than there is is a request that the counts refuse, each run by which the meaning's events up to it are
-- reached
-- is exhausted, with just the events before that, unless the store lacked host memory.
abbrev pub ExhaustedAt : (List ℕ → ℕ) → Areas → State → List ℕ → Meaning → Type 0
ExhaustedAt bound n s input m =
    (fuel : ℕ) (before : List SourceEvent) (e : Event) (rest : List SourceEvent) → m.events fuel ≡ before ++ Visible e ∷ rest
    → HasRoom bound n.pages n.stack before → is_refused_after n.pages (visible before) e ≡ true
    → (enough : ℕ) → ((answers : ℕ → Answer) → Reaches (run_steps n enough (from s input answers)) m fuel)
    → (answers : ℕ → Answer) (count : ℕ) → enough ≤ count → AreExact n count (from s input answers)
    → let r = run_steps n count (from s input answers) in
    (r.state.mode ≡ Over Stop.Lacking) ⊎ ((r.state.mode ≡ Over Stop.Exhausted) × (r.events ≡ visible before))

-- of a machine whose regions' blocks may be as long as the store's
abbrev pub ExhaustionIsExact : Type 0
ExhaustionIsExact =
    (bound : List ℕ → ℕ) (n : Areas) (s : State) (input : List ℕ) (m : Meaning) → s.holdings ≡ fresh n.pages → n.block_limit ≡ block_limit → IsGrowing m
    → Implements bound n s input m → NeverExhausted bound n s input m × ExhaustedAt bound n s input m
