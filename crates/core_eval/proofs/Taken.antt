-- From what the code that goes on answers to a move.
use Rattle.std.proofs.Common.{◌≡◌, ℕ, true, false, List, [], ◌∷◌, map, drop, Result, Ok, Err, IfOk, refl, ap, sym, subst}
use Rattle.core_meaning.specs.Memory.{Content}
use Rattle.core_meaning.specs.Steps as steps
use Rattle.core_meaning.specs.Steps.{Exit}
use Rattle.core_eval.specs.declared.value.Value.{Value}
use Rattle.core_eval.specs.declared.frame.Frame.{Frame}
use Rattle.core_eval.specs.declared.memory.Memory.{Memory}
use Rattle.core_eval.specs.declared.pending.Due.{Due}
use Rattle.core_eval.specs.Elements.{cells_of}
use Rattle.core_eval.specs.Regions.{regions_of}
use Rattle.core_eval.specs.LongBlocks.{long_block_of}
use Rattle.core_eval.specs.Blocks.{activation_of}
use Rattle.core_eval.specs.Pendings.{Task, Leave, Wait, Block, Caller, Saved, Next, Go, Wrong, next_of}
use Rattle.core_eval.specs.Standing.{Known, Takes, LeavesCall, are_as_many, known_of}
use Rattle.core_eval.specs.Costs.{IsMove}
use Rattle.core_eval.proofs.Known.{known_same}
use Rattle.core_eval.proofs.BlockMoves.{outside_of, block_leaves}
use Rattle.core_eval.proofs.LeaveMoves.{result_taken, result_unfit}

-- how it is left, and what waited, said in another way
pub left_as : (exit exit' : Exit) (ws ws' : List Wait) (known : Known) (next : Next) (rest : List Wait) (known' : Known) → exit' ≡ exit → ws' ≡ ws
    → IsMove (Leave exit) ws known next rest known' → IsMove (Leave exit') ws' known next rest known'
left_as exit exit' ws ws' known next rest known' is same h =
    subst (λ (x : Exit). IsMove (Leave x) ws' known next rest known') (sym is)
    (subst (λ (l : List Wait). IsMove (Leave exit) l known next rest known') (sym same) h)

pub left_ok : {E : Type 0} (r : Result Due E) (exit : Exit) (ws ws' : List Wait) (known : Known) (rest : List Wait) (known' : Known) → ws' ≡ ws
    → IfOk r (λ due. IsMove (Leave exit) ws known (next_of due) rest known') → IfOk r (λ due. IsMove (Leave exit) ws' known (next_of due) rest known')
left_ok r exit ws ws' known rest known' same h =
    subst (λ (l : List Wait). IfOk r (λ due. IsMove (Leave exit) l known (next_of due) rest known')) (sym same) h

-- what is known where the innermost function is left, and its caller goes on
pub left_known : (f g : Frame) (m m' : Memory) (temps : List Value) (base : ℕ) → g.temps.items ≡ temps → g.base ≡ base → LeavesCall m m'
    → known_of g m' ≡ record (known_of f m) { temps = temps; base = base; owns = drop 1 (map activation_of m.owns.items) }
left_known f g m m' temps base holds outside h =
    known_same (known_of g m') _ holds outside (ap (λ bs. map activation_of bs.items) h.blocks) h.entered h.owns h.called
    (ap (λ gs. map cells_of gs.items) h.globals) (ap regions_of h.regions) (ap (λ bs. map long_block_of bs.items) h.long_blocks)

-- how it is left, and what waited, said in another way, with what is known then
pub left_to : (exit exit' : Exit) (ws ws' : List Wait) (known : Known) (next : Next) (rest : List Wait) (known' known2 : Known) → exit' ≡ exit → ws' ≡ ws
    → known2 ≡ known' → IsMove (Leave exit) ws known next rest known' → IsMove (Leave exit') ws' known next rest known2
left_to exit exit' ws ws' known next rest known' known2 is same knows h =
    left_as exit exit' ws ws' known next rest known2 is same (subst (λ (k : Known). IsMove (Leave exit) ws known next rest k) (sym knows) h)

-- a block's locals end
pub block_left : (exit : Exit) (ws : List Wait) (f : Frame) (m m' : Memory) → map activation_of m'.blocks.items ≡ drop 1 (map activation_of m.blocks.items)
    → m'.entered ≡ m.entered → m'.owns ≡ m.owns → m'.called ≡ m.called → m'.globals ≡ m.globals → m'.regions ≡ m.regions
    → m'.long_blocks ≡ m.long_blocks
    → IsMove (Leave exit) (Block ∷ ws) (known_of f m) (Go (Leave exit)) ws (known_of f m')
block_left exit ws f m m' blocks entered owns called globals regions long_blocks =
    subst (λ (k : Known). IsMove (Leave exit) (Block ∷ ws) (known_of f m) (Go (Leave exit)) ws k)
    (sym (known_same (known_of f m') (outside_of (known_of f m)) refl refl blocks entered (ap (λ os. map activation_of os.items) owns) called
    (ap (λ gs. map cells_of gs.items) globals) (ap regions_of regions) (ap (λ bs. map long_block_of bs.items) long_blocks)))
    (block_leaves exit ws (known_of f m))

module _ (exit : Exit) (results : List ℕ) (n : ℕ) (vs : List Content) (saved : Saved) (f f' : Frame) (ws : List Wait) (m m' : Memory)
    (left : LeavesCall m m') (is : exit ≡ steps.Returns vs) (base : f'.base ≡ saved.base) where
  -- the temporaries of the caller get the result
  pub result_given : are_as_many results vs ≡ true → Takes results vs saved.temps f'.temps.items
      → IsMove (Leave exit) (Caller results n saved ∷ ws) (known_of f m) (Go (Leave steps.Falls)) ws (known_of f' m')
  result_given fits takes =
      left_to (steps.Returns vs) exit (Caller results n saved ∷ ws) (Caller results n saved ∷ ws) (known_of f m) _ ws _ (known_of f' m') is refl
      (left_known f f' m m' f'.temps.items saved.base refl base left)
      (result_taken (known_of f m) ws results n vs saved f'.temps.items fits takes)

  -- it is of another number of words
  pub result_ungiven : are_as_many results vs ≡ false → f'.temps.items ≡ saved.temps
      → IsMove (Leave exit) (Caller results n saved ∷ ws) (known_of f m) Wrong ws (known_of f' m')
  result_ungiven unfit kept =
      left_to (steps.Returns vs) exit (Caller results n saved ∷ ws) (Caller results n saved ∷ ws) (known_of f m) _ ws _ (known_of f' m') is refl
      (left_known f f' m m' saved.temps saved.base kept base left)
      (result_unfit (known_of f m) ws results n vs saved unfit)

-- nothing waits
pub main_left : (exit : Exit) (ws rest : List Wait) (known : Known) (next : Next) → ws ≡ [] → rest ≡ [] → IsMove (Leave exit) [] known next [] known
    → IsMove (Leave exit) ws known next rest known
main_left exit ws rest known next none still h =
    left_as exit exit [] ws known next rest known refl none (subst (λ (l : List Wait). IsMove (Leave exit) [] known next l known) (sym still) h)

-- what is done, said in another way
pub task_as : {E : Type 0} (r : Result Due E) (task task' : Task) (ws : List Wait) (known : Known) (rest : List Wait) (known' : Known) → task' ≡ task
    → IfOk r (λ due. IsMove task ws known (next_of due) rest known') → IfOk r (λ due. IsMove task' ws known (next_of due) rest known')
task_as r task task' ws known rest known' is h = subst (λ (t : Task). IfOk r (λ due. IsMove t ws known (next_of due) rest known')) (sym is) h

-- with what is known here
pub known_here : {E : Type 0} (r : Result Due E) (task : Task) (ws rest : List Wait) (known : Known)
    → IfOk r (λ due. (known : Known) → IsMove task ws known (next_of due) rest known) → IfOk r (λ due. IsMove task ws known (next_of due) rest known)
known_here (Ok due) task ws rest known h = h known
known_here (Err e) task ws rest known h = tt
