-- From what the code of an operation on a region answers to a move.
use Rattle.std.specs.Prelude.{if◌then◌else◌}
use Rattle.std.proofs.Common.{◌≡◌, ℕ, suc, Bool, false, Option, Some, None, List, [], ◌∷◌, ◌++◌, length, map, Result, IfOk, OnOk, ap, ◌∙◌, sym, subst}
use Rattle.cyc_words.specs.Events as events
use Rattle.core_meaning.specs.Memory as memory
use Rattle.core_meaning.specs.Core as core
use Rattle.core_meaning.specs.Steps as steps
use Rattle.core_meaning.specs.Steps.{Config, with_temp, with_memory, Step, Visible}
use Rattle.core_meaning.specs.Operations.{born, does, says}
use Rattle.core_eval.specs.declared.region.Standing.{Standing}
use Rattle.core_eval.specs.declared.value.Object.{Object}
use Rattle.core_eval.specs.declared.value.Value.{Value}
use Rattle.core_eval.specs.declared.value.Value.TheVariants as value
use Rattle.core_eval.specs.declared.frame.Frame.{Frame}
use Rattle.core_eval.specs.declared.pending.Due.{Due}
use Rattle.core_eval.specs.declared.memory.Memory.{Memory}
use Rattle.core_eval.specs.Values.{content_of, temp_of}
use Rattle.core_eval.specs.Elements.{cells_of}
use Rattle.core_eval.specs.Regions.{Regions, regions_of, turned}
use Rattle.core_eval.specs.Pendings.{Execute, Leave, Wait, Go, Wrong, next_of}
use Rattle.core_eval.specs.Standing.{Known, IsSilent, Gives, known_of, standing_of}
use Rattle.core_eval.specs.Costs.{IsMove}
use Rattle.core_eval.proofs.OperationMoves.{given}
use Rattle.core_eval.proofs.RegionMoves.{with_birth, birth_moves}
use Rattle.core_eval.proofs.TurnMoves.{IsTurn, birth_answer}
use Rattle.core_eval.proofs.Answered.{move_as, given_after, regions_known}

-- nothing is stored in another way but for the regions that were born
pub record RegionsAlone (m m' : Memory) : Type 0 where
  pub blocks : m'.blocks ≡ m.blocks
  pub entered : m'.entered ≡ m.entered
  pub owns : m'.owns ≡ m.owns
  pub called : m'.called ≡ m.called
  pub globals : m'.globals ≡ m.globals
  pub long_blocks : m'.long_blocks ≡ m.long_blocks

pub alone_known : (f : Frame) (m m' : Memory) → RegionsAlone m m' → known_of f m' ≡ record (known_of f m) { regions = regions_of m'.regions }
alone_known f m m' alone = regions_known f m m' alone.blocks alone.entered alone.owns alone.called alone.globals alone.long_blocks

-- what is done, or can't be
pub done_answer : (due : Due) (f : Frame) (m m' : Memory) (o : core.Operation) (is_done : Bool)
    → next_of due ≡ (if is_done then Go (Leave steps.Falls) else Wrong)
    → RegionsAlone m m'
    → ((ws : List Wait) → IsMove (Execute (core.Do o)) ws (known_of f m) (if is_done then Go (Leave steps.Falls) else Wrong) ws
    (record (known_of f m) { regions = regions_of m'.regions }))
    → (ws : List Wait) → IsMove (Execute (core.Do o)) ws (known_of f m) (next_of due) ws (known_of f m')
done_answer due f m m' o is_done next alone moves ws =
    move_as _ ws (known_of f m) (if is_done then Go (Leave steps.Falls) else Wrong) (next_of due) ws (record (known_of f m) { regions = regions_of m'.regions })
    (known_of f m') next (alone_known f m m' alone) (moves ws)

pub turn_answered : (due : Due) (f : Frame) (m m' : Memory) (o : core.Operation) (x : ℕ) (from : Standing) (to : Option Standing) → IsTurn o x from to
    → (v : Value)
    → content_of v ≡ temp_of f.temps.items x → (d : ℕ) → v ≡ value.Birth d → (is_done : Bool)
    → next_of due ≡ (if is_done then Go (Leave steps.Falls) else Wrong) → RegionsAlone m m'
    → turned (regions_of m.regions) d from to ≡ (if is_done then Some (regions_of m'.regions) else None)
    → (is_done ≡ false → regions_of m'.regions ≡ regions_of m.regions)
    → (ws : List Wait) → IsMove (Execute (core.Do o)) ws (known_of f m) (next_of due) ws (known_of f m')
turn_answered due f m m' o x from to is_turn v read d is is_done next alone e kept =
    done_answer due f m m' o is_done next alone
    (λ ws. birth_answer (known_of f m) ws o x from to is_turn v read d is is_done (regions_of m'.regions) e kept)

-- what a new region without blocks is known as, and its handle
pub birth_answered : {E : Type 0} (r : Result Due E) (f f' : Frame) (m m' : Memory) (o : core.Operation) (s : Standing) (event : ℕ → events.Event)
    → ((d : ℕ) → IsSilent (Visible (event d))) → (t : ℕ)
    → ((next : Config → Step) (c : Config) → does o next c
    ≡ says (event c.memory.births) (next (with_temp t (memory.Birth c.memory.births) (with_memory (born (standing_of s) c.memory) c))))
    → (d : ℕ) → d ≡ suc (length (regions_of m.regions)) → RegionsAlone m m' → (objects : List Object) → objects ≡ []
    → regions_of m'.regions ≡ regions_of m.regions ++ Some (record { standing = s; objects = map cells_of objects }) ∷ []
    → IfOk r (λ due. next_of due ≡ Go (Leave steps.Falls)) → OnOk r (Gives t (memory.Birth d) f.temps.items f'.temps.items) → OnOk r (f'.base ≡ f.base)
    → IfOk r (λ due. (ws : List Wait) → IsMove (Execute (core.Do o)) ws (known_of f m) (next_of due) ws (known_of f' m'))
birth_answered r f f' m m' o s event silent t does_so d is alone objects none regions next gives base =
    let all : regions_of m'.regions ≡ regions_of m.regions ++ Some (record { standing = s; objects = [] }) ∷ [] =
    regions ∙ ap (λ (os : List Object). regions_of m.regions ++ Some (record { standing = s; objects = map cells_of os }) ∷ []) none in
    given_after r f f' t (memory.Birth d) (Execute (core.Do o)) m m' next gives base
    (λ ws gives.
    let known : known_of f m' ≡ with_birth (known_of f m) ws s =
    alone_known f m m' alone ∙ ap (λ (rs : Regions). record (known_of f m) { regions = rs }) all in
    subst
    (λ (k : Known). IsMove (Execute (core.Do o)) ws (known_of f m) (Go (Leave steps.Falls)) ws (given k f'.temps.items))
    (sym known)
    (birth_moves (known_of f m) ws s o event silent t does_so f'.temps.items d is gives))
