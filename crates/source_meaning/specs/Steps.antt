-- Believed: what is declared and what is in scope; the steps of a source's run, which are a tree; and acts, which make the steps.
use Rattle.std.specs.Prelude.{ℕ, Bool, true, false, Option, Some, None, List}
use Rattle.cyc_tree.specs.Tree.{Expression, Statement, BlockItems}
use Rattle.cyc_words.specs.declared.faults.Kind.{Kind}
use Rattle.cyc_words.specs.Events.{Event, SourceEvent, Visible, SourceEnding}
use Rattle.step_trees.specs.Trees.{Tree, Bodies, Calls, Turns, Stops, Says, Pays}
use Rattle.source_meaning.specs.Shapes.{Shape, Part, Layout}
use Rattle.source_meaning.specs.Memory.{Memory, Scalar, Spot}

-- ---- what is declared

-- a name stands for a variable
pub data Entity : Type 0 where
  Variable : Shape → Spot → Entity

-- a name that is in scope
pub record Binding : Type 0 where
  pub name : List ℕ
  pub entity : Entity

-- a function
pub record Routine : Type 0 where
  pub name : List ℕ
  pub result : Shape
  pub parameters : List Part
  pub body : BlockItems

-- what the program declares
pub record World : Type 0 where
  -- the latest struct first
  pub structs : List Layout
  pub unions : List Layout
  pub functions : List Routine
  pub globals : List Binding
  -- the string at each place in the text
  pub strings : List (ℕ × Scalar)

-- what is in scope: the innermost local first, the number of the block's activation, and the function's result
pub record Scope : Type 0 where
  pub world : World
  pub locals : List Binding
  pub frame : ℕ
  pub result : Shape

-- ---- steps

-- how a statement is left
pub data Flow : Type 0 where
  Falls : Flow
  Breaks : Flow
  Continues : Flow
  Returns : List Scalar → Flow

-- a call of a function
pub record Invocation : Type 0 where
  pub routine : Routine
  pub world : World
  pub arguments : List (List Scalar)

-- a turn of a loop
pub record LoopTurn : Type 0 where
  pub condition : Expression
  pub body : Statement
  pub scope : Scope

-- the steps of a source's run
abbrev pub Step : Type 0
Step = Tree SourceEvent Invocation (List Scalar) Memory LoopTurn Flow Memory

-- what stands in the places of its calls and turns, and how it shows a byte that is read
abbrev pub SourceBodies : Type 0
SourceBodies = Bodies SourceEvent Invocation (List Scalar) Memory LoopTurn Flow Memory

-- ---- acts

-- an act: given what comes after it and the memory, it makes the steps
abbrev pub Act : Type 0 → Type 0
Act A = (A → Memory → Step) → Memory → Step

infixl 20 ◌>>=◌
infixl 20 ◌>>◌
-- an act that does nothing but give a value
abbrev pub give : {A : Type 0} → A → Act A
give a = λ next m. next a m

-- one act, and then the one that its value makes
abbrev pub ◌>>=◌ : {A B : Type 0} → Act A → (A → Act B) → Act B
◌>>=◌ act f = λ next m. act (λ a. f a next) m

-- one act and then another
abbrev pub ◌>>◌ : {A B : Type 0} → Act A → Act B → Act B
◌>>◌ act then_act = λ next m. act (λ a. then_act next) m

-- what no rule gives a meaning
abbrev pub stuck : {A : Type 0} → Act A
stuck = λ next m. Stops SourceEnding.Stuck

-- a raise ends the run at once: what was to come after it is dropped, region exits too
abbrev pub raise : {A : Type 0} → Kind → Act A
raise kind = λ next m. Stops (SourceEnding.Raised kind)

-- an event is seen
abbrev pub say : SourceEvent → Act (Unit {0})
say event = λ next m. Says event (next tt m)

-- an event that the image shows too
abbrev pub show : Event → Act (Unit {0})
show event = say (Visible event)

-- one unit is due
abbrev pub pay : Act (Unit {0})
pay = λ next m. Pays (λ m'. next tt m') m

-- one unit, and the body of a function with these arguments
abbrev pub invoke : Routine → World → List (List Scalar) → Act (List Scalar)
invoke f w arguments = λ next m. Calls (record { routine = f; world = w; arguments = arguments }) next m

-- one unit, and a turn of a loop
abbrev pub take_turn : Expression → Statement → Scope → Act Flow
take_turn condition body scope = λ next m. Turns (record { condition = condition; body = body; scope = scope }) next m

-- the memory as it is
abbrev pub memory : Act Memory
memory = λ next m. next m m

-- another memory from here on
abbrev pub set_memory : Memory → Act (Unit {0})
set_memory m' = λ next m. next tt m'

-- a value that has to be there
abbrev pub need : {A : Type 0} → Option A → Act A
need None = stuck
need (Some a) = give a

-- a fact that has to hold
abbrev pub check : Bool → Act (Unit {0})
check true = give tt
check false = stuck

-- one of two acts
abbrev pub choose : {A : Type 0} → Bool → Act A → Act A → Act A
choose true first second = first
choose false first second = second

-- an act and then its exit; the result is the act's, as the way in which a statement is left
abbrev pub finally : {A : Type 0} → Act A → Act (Unit {0}) → Act A
finally act exit = act >>= λ a. exit >> give a
