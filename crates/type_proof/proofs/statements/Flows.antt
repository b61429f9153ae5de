-- How statements are left, what they return, and how the locals that can't be copied stand on each way.
use Rattle.std.proofs.Common.{◌≡◌, ℕ, true, Option, Some, List, []}
use Rattle.std.specs.Prelude.{◌||◌, ◌++◌}
use Rattle.cyc_tree.specs.Tree.{Expression, Statement}
use Rattle.source_meaning.specs.Memory.{Region, Scalar, Memory}
use Rattle.source_meaning.specs.Steps.{World, Scope, Flow, Falls, Breaks, Continues, Returns, Act, take_turn}
use Rattle.source_meaning.specs.Strings.{expression_strings, statement_strings}
use Rattle.source_typing.specs.Flow.{use_of}
use Rattle.source_typing.specs.Left.{Left, left_by, turn_of, back_of, loop_from}
use Rattle.source_typing.specs.Scope.{Env}
use Rattle.source_typing.specs.States.{States, Passed, meet_all}
use Rattle.source_typing.specs.Statements.{in_a_loop}
use Rattle.source_typing.specs.Tables as typing
use Rattle.type_proof.specs.Flat.{Tables, flat}
use Rattle.type_proof.specs.Judged.{Condition, StatementJudged}
use Rattle.type_proof.proofs.invariant.Invariant as invariant
use Rattle.type_proof.proofs.invariant.Invariant.{RunType, heap, Ghost, HaveTypes, Inv}
use Rattle.type_proof.proofs.invariant.Runs.{Runs}
use Rattle.type_proof.proofs.invariant.After.{After}
use Rattle.type_proof.proofs.invariant.Names.{NameOf}
use Rattle.type_proof.proofs.invariant.Standing.{Standing, AreKinds}
use Rattle.type_proof.proofs.Strings.{AreFound}
use Rattle.type_proof.proofs.invariant.Scenes.{Scene}
use Rattle.type_proof.proofs.statements.Surroundings.{Surrounds}

-- what is returned is of the function's type in this run
abbrev pub ReturnOk : Tables → RunType → List Scalar → Ghost → Type 0
ReturnOk d gives vs w = HaveTypes d w (λ c. invariant.Returned c) vs (flat heap d gives)

-- a way that the rules of flow have, in its states
abbrev pub WayStands : Tables → Env → Scope → (NameOf → Region) → Option States → Ghost → Memory → Type 0
WayStands d g scope f o w m = (t : States) × (o ≡ Some t) × Standing d g scope f t w m

-- a statement is left in one of its ways
abbrev pub WaysStand : Tables → RunType → Env → Scope → (NameOf → Region) → Left → Flow → Ghost → Memory → Type 0
WaysStand d gives g scope f l Falls w m = WayStands d g scope f l.falls w m
WaysStand d gives g scope f l Breaks w m = (WayStands d g scope f l.breaks w m) × (g.in_loop || g.in_switch ≡ true)
WaysStand d gives g scope f l Continues w m = (WayStands d g scope f l.continues w m) × (g.in_loop ≡ true)
WaysStand d gives g scope f l (Returns vs) w m = ReturnOk d gives vs w

-- an act that is left so, wherever its function is run, from all states from which it has no fault
abbrev pub Leaves : ℕ → Tables → RunType → Env → Scope → (NameOf → Region) → ℕ → (States → Left) → Act Flow → Type 0
Leaves n d gives g scope f b p act = (s : States) → (p s).faults ≡ [] → (k : ℕ) (w : Ghost) (m : Memory) → Inv d w m → Scene d g scope f b b s k w m
    → Runs n act m (λ flow. After d k b w m (λ w' m'. WaysStand d gives g scope f (p s) flow w' m'))

-- states at the head of a loop that each turn keeps, and from which a turn has no fault
pub record Head (d : Tables) (g : Env) (f : NameOf → Region) (c : States → Passed) (l : States → Left) (h : States) : Type 0 where
  pub faultless : (turn_of c l h).faults ≡ []
  pub keeps : (t : States) → back_of (turn_of c l h) ≡ Some t → meet_all h t ≡ h
  pub kinds : AreKinds g.tables d f g.locals h

-- a turn, and what follows it
abbrev pub Turns : ℕ → Tables → RunType → Env → Scope → (NameOf → Region) → ℕ → (States → Passed) → (States → Left) → Act Flow → Type 0
Turns n d gives g scope f b c l act = (h : States) → Head d g f c l h → (k : ℕ) (w : Ghost) (m : Memory) → Inv d w m → Scene d g scope f b b (c h).states k w m
    → Runs n act m (λ flow. After d k b w m (λ w' m'. WaysStand d gives g scope f (loop_from c l h) flow w' m'))

-- Each turn of a loop, and what follows it, runs safely with n units.
abbrev pub Turning : ℕ → Tables → World → typing.Tables → Type 0
Turning n d world tables =
    (gives : RunType) (g : Env) (scope : Scope) (f : NameOf → Region) (b : ℕ) (condition : Expression) (body : Statement)
    → Surrounds d world tables g scope f gives
    → Condition g condition
    → StatementJudged (in_a_loop g) true body → AreFound world.strings (expression_strings condition ++ statement_strings body)
    → Turns n d gives g scope f b (use_of g condition).look (left_by (in_a_loop g) body) (take_turn condition body scope)
