-- What goes on from a place of the lines as Core does: statements, what is called, and what follows a return.
use Rattle.std.proofs.Common.{◌≡◌, ℕ, Bool, List, ◌∷◌, subst}
use Rattle.core_meaning.specs.Memory.{Content, Memory}
use Rattle.core_meaning.specs.Meaning as core
use Rattle.core_meaning.specs.Steps.{Config, Step, Exit, Returns}
use Rattle.core_lines.specs.Held.{Holding}
use Rattle.core_lines.proofs.memory.Relations.{World, Waiting, Goes, At, Calling, Returning, Back, active_of, Covers, keeping, invoke}
use Rattle.core_lines.proofs.memory.Moving.{goes_as}
use Rattle.core_lines.proofs.operations.Registers.{AtHolding, at_any, fewer_holding}

-- an activation with other temporaries
abbrev pub with_config : Waiting → Config → Waiting
with_config x c = record x { config = c }

-- a configuration of the same activation: in the same blocks
pub record StaysIn (from c : Config) : Type 0 where
  pub blocks : c.blocks ≡ from.blocks
  pub own : c.own ≡ from.own

abbrev pub IsIn : Waiting → Config → Type 0
IsIn x c = StaysIn x.config c

-- from each state at a place, with any temporaries and any memory, what follows goes on
abbrev pub GoesFrom : World → Waiting → List Waiting → ℕ → ℕ → (Config → Step) → Type 0
GoesFrom w x outer most place next = (c : Config) → IsIn x c → Goes w most (next c) (At w (with_config x c) outer c.memory place) (active_of w (x ∷ outer))

pub from_same : (w : World) (x : Waiting) (outer : List Waiting) (fuel a b : ℕ) (next : Config → Step) → a ≡ b → GoesFrom w x outer fuel a next
    → GoesFrom w x outer fuel b next
from_same w x outer fuel a b next e goes = subst (λ p. GoesFrom w x outer fuel p next) e goes

-- the same, where this is known of temporaries
abbrev pub GoesHolding : World → Waiting → List Waiting → ℕ → ℕ → List Holding → (Config → Step) → Type 0
GoesHolding w x outer most place held next =
    (c : Config) → IsIn x c → Goes w most (next c) (AtHolding w (with_config x c) outer c.memory place held) (active_of w (x ∷ outer))

-- what goes on where nothing is known goes on in any case
pub goes_any : (w : World) (x : Waiting) (outer : List Waiting) (most place : ℕ) (held : List Holding) (next : Config → Step)
    → GoesFrom w x outer most place next → GoesHolding w x outer most place held next
goes_any w x outer most place held next goes c is =
    goes_as w (AtHolding w (with_config x c) outer c.memory place held) (active_of w (x ∷ outer)) most (next c) (At w (with_config x c) outer c.memory place)
    (λ s a. at_any w (with_config x c) outer c.memory place held s a) (goes c is)

-- what goes on from where few slots show their words goes on from where more do
pub goes_fewer : (w : World) (x : Waiting) (outer : List Waiting) (most place : ℕ) (held : List Holding) (next : Config → Step) (more less : List Bool)
    → Covers more less → GoesHolding w (keeping less x) outer most place held next → GoesHolding w (keeping more x) outer most place held next
goes_fewer w x outer most place held next more less covers goes c is =
    goes_as w (AtHolding w (with_config (keeping more x) c) outer c.memory place held) (active_of w (x ∷ outer)) most (next c)
    (AtHolding w (with_config (keeping less x) c) outer c.memory place held)
    (λ s a. fewer_holding w (with_config (keeping more x) c) outer c.memory place held less s covers a) (goes c is)

-- what is called does as Core, and what it returns to goes on
abbrev pub BodyGoes : World → ℕ → ℕ → Type 0
BodyGoes w most f =
    (arguments : List Content) (next : List Content → Memory → Step) (mem : Memory) (outer : List Waiting)
    → ((values : List Content) (m : Memory) → Goes w most (next values m) (Back w outer m values) (active_of w outer))
    → Goes w most (core.called w.functions (invoke f arguments) next mem) (Calling w f outer mem arguments) (active_of w outer)

-- from the moment at which an activation's frame is given back, what follows a return goes on
abbrev pub GoesReturning : World → Waiting → List Waiting → ℕ → (Exit → Config → Step) → Type 0
GoesReturning w x outer most next =
    (c : Config) (values : List Content) → IsIn x c
    → Goes w most (next (Returns values) c) (Returning w (with_config x c) outer c.memory values) (active_of w (x ∷ outer))
