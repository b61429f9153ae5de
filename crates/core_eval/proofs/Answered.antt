-- From what the code of an operation answers to a move.
use Rattle.std.specs.Prelude.{slice_index_or, slice_set, if◌then◌else◌}
use Rattle.std.proofs.Common.{◌≡◌, ℕ, zero, suc, ◌+◌, ◌<◌, Bool, true, Option, Some, None, List, [], ◌∷◌, length, map, Result, Ok, Err, IfOk, OnOk, refl, ap}
use Rattle.std.proofs.Common.{◌∙◌, sym, subst, arith}
use Rattle.core_meaning.specs.Memory.{Content}
use Rattle.core_meaning.specs.Core as core
use Rattle.core_meaning.specs.Steps as steps
use Rattle.cyc_core.specs.declared.operation.Operation.{Operation}
use Rattle.cyc_core.specs.declared.operation.Width.{Width}
use Rattle.cyc_core.specs.declared.operation.Distance.{Distance}
use Rattle.cyc_core.specs.Trees.{operation_tree, bytes_of, distance_tree}
use Rattle.core_eval.specs.declared.value.Value.{Value}
use Rattle.core_eval.specs.declared.value.Value.TheVariants as value
use Rattle.core_eval.specs.declared.value.Place.{Place}
use Rattle.core_eval.specs.declared.frame.Frame.{Frame}
use Rattle.core_eval.specs.declared.pending.Due.{Due}
use Rattle.core_eval.specs.declared.memory.Memory.{Memory}
use Rattle.core_eval.specs.declared.value.Slot.{Slot}
use Rattle.core_eval.specs.Values.{content_of, temp_of, is_kept, value_of}
use Rattle.core_eval.specs.Elements.{cells_of}
use Rattle.core_eval.specs.Regions.{regions_of}
use Rattle.core_eval.specs.LongBlocks.{long_block_of}
use Rattle.core_eval.specs.Blocks.{Activation, Stored, Descends, AreOrdered, activation_of, slot_in, local_slot, put_local, stored_of, put_to}
use Rattle.core_eval.specs.Pendings.{Task, Execute, Leave, Wait, Next, Go, Wrong, next_of}
use Rattle.core_eval.specs.Standing.{Known, Gives, known_of}
use Rattle.core_eval.specs.Costs.{IsDone, IsMove}
use Rattle.core_eval.proofs.Known.{known_same}
use Rattle.core_eval.proofs.OperationMoves.{given}
use Rattle.core_eval.proofs.Changes.{with_stored}
use Rattle.core_eval.proofs.StoreMoves.{put_moves, put_wrong, store_moves, store_wrong}

-- a move to what is said in another way
pub move_as : (task : Task) (ws : List Wait) (known : Known) (next next' : Next) (ws' : List Wait) (known' known2 : Known) → next' ≡ next → known2 ≡ known'
    → IsMove task ws known next ws' known' → IsMove task ws known next' ws' known2
move_as task ws known next next' ws' known' known2 n k h =
    subst (λ (x : Next). IsMove task ws known x ws' known2) (sym n) (subst (λ (x : Known). IsMove task ws known next ws' x) (sym k) h)

-- what a frame is known as, where only its temporaries changed
pub given_known : (f f' : Frame) (m : Memory) → f'.base ≡ f.base → known_of f' m ≡ given (known_of f m) f'.temps.items
given_known f f' m same = ap (λ b. record (known_of f m) { temps = f'.temps.items; base = b }) same

-- what `give` answers
pub given_answer : {E : Type 0} (r : Result Due E) (f f' : Frame) (t : ℕ) (v : Content) (task : Task) → IfOk r (λ due. next_of due ≡ Go (Leave steps.Falls))
    → OnOk r (Gives t v f.temps.items f'.temps.items) → OnOk r (f'.base ≡ f.base)
    → ((ws : List Wait) (m : Memory) → Gives t v f.temps.items f'.temps.items
    → IsMove task ws (known_of f m) (Go (Leave steps.Falls)) ws (given (known_of f m) f'.temps.items))
    → IfOk r (λ due. (ws : List Wait) (m : Memory) → IsMove task ws (known_of f m) (next_of due) ws (known_of f' m))
given_answer (Ok due) f f' t v task next gives base h =
    λ ws m. move_as task ws (known_of f m) (Go (Leave steps.Falls)) (next_of due) ws (given (known_of f m) f'.temps.items)
    (known_of f' m)
    next (given_known f f' m base) (h ws m gives)
given_answer (Err e) f f' t v task next gives base h = tt

-- the same, where what is stored changed first
pub given_after : {E : Type 0} (r : Result Due E) (f f' : Frame) (t : ℕ) (v : Content) (task : Task) (m m' : Memory)
    → IfOk r (λ due. next_of due ≡ Go (Leave steps.Falls)) → OnOk r (Gives t v f.temps.items f'.temps.items) → OnOk r (f'.base ≡ f.base)
    → ((ws : List Wait) → Gives t v f.temps.items f'.temps.items
    → IsMove task ws (known_of f m) (Go (Leave steps.Falls)) ws (given (known_of f m') f'.temps.items))
    → IfOk r (λ due. (ws : List Wait) → IsMove task ws (known_of f m) (next_of due) ws (known_of f' m'))
given_after (Ok due) f f' t v task m m' next gives base h =
    λ ws. move_as task ws (known_of f m) (Go (Leave steps.Falls)) (next_of due) ws (given (known_of f m') f'.temps.items) (known_of f' m')
    next (given_known f f' m' base) (h ws gives)
given_after (Err e) f f' t v task m m' next gives base h = tt

pub given_here : {E : Type 0} (r : Result Due E) (f f' : Frame) (t : ℕ) (v : Content) (task : Task) (m : Memory)
    → IfOk r (λ due. next_of due ≡ Go (Leave steps.Falls)) → OnOk r (Gives t v f.temps.items f'.temps.items) → OnOk r (f'.base ≡ f.base)
    → ((ws : List Wait) → Gives t v f.temps.items f'.temps.items
    → IsMove task ws (known_of f m) (Go (Leave steps.Falls)) ws (given (known_of f m) f'.temps.items))
    → IfOk r (λ due. (ws : List Wait) → IsMove task ws (known_of f m) (next_of due) ws (known_of f' m))
given_here r f f' t v task m = given_after r f f' t v task m m

-- with some memory
pub with_memory : {E : Type 0} (r : Result Due E) (f f' : Frame) (task : Task) (m : Memory)
    → IfOk r (λ due. (ws : List Wait) (m : Memory) → IsMove task ws (known_of f m) (next_of due) ws (known_of f' m))
    → IfOk r (λ due. (ws : List Wait) → IsMove task ws (known_of f m) (next_of due) ws (known_of f' m))
with_memory (Ok due) f f' task m h = λ ws. h ws m
with_memory (Err e) f f' task m h = tt

-- the operation that it is
pub for_operation : {E : Type 0} (r : Result Due E) (o o' : Operation) (known known' : Known) → o ≡ o'
    → IfOk r (λ due. (ws : List Wait) → IsMove (Execute (core.Do (operation_tree o'))) ws known (next_of due) ws known')
    → IfOk r (λ due. (ws : List Wait) → IsMove (Execute (core.Do (operation_tree o))) ws known (next_of due) ws known')
for_operation r o o' known known' is h =
    subst (λ (p : Operation). IfOk r (λ due. (ws : List Wait) → IsMove (Execute (core.Do (operation_tree p))) ws known (next_of due) ws known')) (sym is) h

pub for_operation_ok : (due : Due) (o o' : Operation) (known known' : Known) → o ≡ o'
    → ((ws : List Wait) → IsMove (Execute (core.Do (operation_tree o'))) ws known (next_of due) ws known')
    → (ws : List Wait) → IsMove (Execute (core.Do (operation_tree o))) ws known (next_of due) ws known'
for_operation_ok due o o' known known' is h =
    subst (λ (p : Operation). (ws : List Wait) → IsMove (Execute (core.Do (operation_tree p))) ws known (next_of due) ws known') (sym is) h

pub done_as : (o o' : Operation) (known known' : Known) → o ≡ o' → IsDone o' known known' → IsDone o known known'
done_as o o' known known' is h = subst (λ (p : Operation). IsDone p known known') (sym is) h

-- a write of what is there already
pub set_same : {A : Type 0} (xs : List A) (k : ℕ) (x : A) → k < length xs → x ≡ slice_index_or xs k x → slice_set xs k x ≡ xs
set_same [] k x h e = absurd (omega (arith, h))
set_same (y ∷ xs) zero x h e = ap (λ z. z ∷ xs) e
set_same (y ∷ xs) (suc k) x h e = ap (λ l. y ∷ l) (set_same xs k x (omega (arith, h)) e)

-- what is read at a distance
pub value_there : (m : Memory) (p : Place) (d : Distance) (cell byte : ℕ) (slot : Option Slot) (r o : Option Value) → cell ≡ p.cell + d.cells
    → byte ≡ p.byte + d.bytes
    → slot ≡ slot_in (stored_of m) p.area p.object cell → r ≡ value_of byte d.part d.width slot → r ≡ o
    → value_of (p.byte + d.bytes) d.part d.width (slot_in (stored_of m) p.area p.object (p.cell + d.cells)) ≡ o
value_there m p d cell byte slot r o further later there read is =
    ap (λ b. value_of b d.part d.width (slot_in (stored_of m) p.area p.object (p.cell + d.cells))) (sym later)
    ∙ ap (λ k. value_of byte d.part d.width (slot_in (stored_of m) p.area p.object k)) (sym further)
    ∙ ap (value_of byte d.part d.width) (sym there) ∙ sym read ∙ is

-- ---- stores

-- what is known after a store
pub stored_known : (f : Frame) (m m' : Memory) → m'.entered ≡ m.entered → m'.called ≡ m.called
    → known_of f m' ≡ with_stored (known_of f m) (stored_of m')
stored_known f m m' entered called = known_same (known_of f m') _ refl refl refl entered refl called refl refl refl

unstored_known : (f : Frame) (m m' : Memory) → stored_of m' ≡ stored_of m → m'.entered ≡ m.entered → m'.called ≡ m.called → known_of f m' ≡ known_of f m
unstored_known f m m' same entered called = stored_known f m m' entered called ∙ ap (with_stored (known_of f m)) same

-- what is stored where a block's locals alone changed
blocks_known : (f : Frame) (m m' : Memory) → m'.entered ≡ m.entered → m'.owns ≡ m.owns → m'.called ≡ m.called → m'.globals ≡ m.globals
    → m'.regions ≡ m.regions → m'.long_blocks ≡ m.long_blocks → known_of f m' ≡ record (known_of f m) { blocks = map activation_of m'.blocks.items }
blocks_known f m m' entered owns called globals regions long_blocks =
    known_same (known_of f m') _ refl refl refl entered (ap (λ os. map activation_of os.items) owns) called
    (ap (λ gs. map cells_of gs.items) globals) (ap regions_of regions) (ap (λ bs. map long_block_of bs.items) long_blocks)

-- what is stored where regions that were born alone changed
pub regions_known : (f : Frame) (m m' : Memory) → m'.blocks ≡ m.blocks → m'.entered ≡ m.entered → m'.owns ≡ m.owns → m'.called ≡ m.called
    → m'.globals ≡ m.globals → m'.long_blocks ≡ m.long_blocks → known_of f m' ≡ record (known_of f m) { regions = regions_of m'.regions }
regions_known f m m' blocks entered owns called globals long_blocks =
    known_same (known_of f m') _ refl refl (ap (λ bs. map activation_of bs.items) blocks) entered (ap (λ os. map activation_of os.items) owns) called
    (ap (λ gs. map cells_of gs.items) globals) refl (ap (λ bs. map long_block_of bs.items) long_blocks)

-- what a store answers
abbrev stored_if : {A : Type 0} → Bool → A → Option A
stored_if is_there x = (if is_there then Some x else None)

module _ (f : Frame) (m m' : Memory) (x : ℕ) (v : Value) (is_there : Bool) (read : content_of v ≡ temp_of f.temps.items x) (entered : m'.entered ≡ m.entered)
    (called : m'.called ≡ m.called) (ws : List Wait) where
  abbrev blocks_of : Memory → List Activation
  blocks_of m = map activation_of m.blocks.items

  module _ (owns : m'.owns ≡ m.owns) (globals : m'.globals ≡ m.globals) (regions : m'.regions ≡ m.regions)
      (long_blocks : m'.long_blocks ≡ m.long_blocks) (out i : ℕ) (w : Width)
      (put : put_local f.base (blocks_of m) out i w v ≡ stored_if is_there (blocks_of m')) where
    pub put_answer : is_there ≡ true
        → IsMove (Execute (core.Do (core.Put out i (bytes_of w) x))) ws (known_of f m) (Go (Leave steps.Falls)) ws (known_of f m')
    put_answer stored =
        move_as _ ws (known_of f m) (Go (Leave steps.Falls)) _ ws (record (known_of f m) { blocks = blocks_of m' }) (known_of f m')
        refl (blocks_known f m m' entered owns called globals regions long_blocks)
        (put_moves (known_of f m) ws x v read out i w (blocks_of m') (put ∙ ap (λ b. stored_if b (blocks_of m')) stored))

  pub unput_answer : m'.owns ≡ m.owns → m'.globals ≡ m.globals → m'.regions ≡ m.regions → m'.long_blocks ≡ m.long_blocks → (out i : ℕ) (w : Width)
      → blocks_of m' ≡ blocks_of m
      → value_of 0 0 w (local_slot f.base (blocks_of m') out i) ≡ None
      → IsMove (Execute (core.Do (core.Put out i (bytes_of w) x))) ws (known_of f m) Wrong ws (known_of f m')
  unput_answer owns globals regions long_blocks out i w same missing =
      move_as _ ws (known_of f m) Wrong _ ws (known_of f m) (known_of f m') refl
      (blocks_known f m m' entered owns called globals regions long_blocks ∙ ap (λ bs. record (known_of f m) { blocks = bs }) same)
      (put_wrong (known_of f m) ws x v read out i w (ap (λ bs. value_of 0 0 w (local_slot f.base bs out i)) (sym same) ∙ missing))

  module _ (y : ℕ) (u : Value) (place : content_of u ≡ temp_of f.temps.items y) (p : Place) (is_place : u ≡ value.Pointer p) (d : Distance) (cell byte : ℕ)
      (kept : is_kept d.part d.width ≡ true) (further : cell ≡ p.cell + d.cells) (later : byte ≡ p.byte + d.bytes)
      (put : AreOrdered m → put_to (stored_of m) p.area p.object cell byte d.part d.width v ≡ stored_if is_there (stored_of m')) where
    at_distance : AreOrdered m
        → put_to (stored_of m) p.area p.object (p.cell + d.cells) (p.byte + d.bytes) d.part d.width v ≡ stored_if is_there (stored_of m')
    at_distance h =
        ap (λ k. put_to (stored_of m) p.area p.object k (p.byte + d.bytes) d.part d.width v) (sym further)
        ∙ ap (λ b. put_to (stored_of m) p.area p.object cell b d.part d.width v) (sym later) ∙ put h

    pub store_answer : is_there ≡ true
        → IsMove (Execute (core.Do (core.Store y (distance_tree d) x))) ws (known_of f m) (Go (Leave steps.Falls)) ws (known_of f m')
    store_answer stored =
        move_as _ ws (known_of f m) (Go (Leave steps.Falls)) _ ws (with_stored (known_of f m) (stored_of m')) (known_of f m')
        refl (stored_known f m m' entered called)
        (store_moves (known_of f m) ws x v read y u place p is_place d kept (stored_of m') (λ h. at_distance h ∙ ap (λ b. stored_if b (stored_of m')) stored))

-- the order of what stays stored
still_ordered : (m m' : Memory) → stored_of m' ≡ stored_of m → m'.entered ≡ m.entered → m'.called ≡ m.called → AreOrdered m → AreOrdered m'
still_ordered m m' same entered called (blocks, owns) = (
  subst (λ (s : Stored). Descends m'.entered s.blocks) (sym same) (subst (λ (n : ℕ). Descends n (stored_of m).blocks) (sym entered) blocks),
  subst (λ (s : Stored). Descends m'.called s.owns) (sym same) (subst (λ (n : ℕ). Descends n (stored_of m).owns) (sym called) owns),
)

pub unstore_answer : (f : Frame) (m m' : Memory) (x : ℕ) (v : Value) (read : content_of v ≡ temp_of f.temps.items x) (ws : List Wait) (y : ℕ) (u : Value)
    (place : content_of u ≡ temp_of f.temps.items y) (p : Place) (is_place : u ≡ value.Pointer p) (d : Distance) (kept : is_kept d.part d.width ≡ true)
    (entered : m'.entered ≡ m.entered) (called : m'.called ≡ m.called) (same : stored_of m' ≡ stored_of m)
    → (AreOrdered m' → value_of (p.byte + d.bytes) d.part d.width (slot_in (stored_of m') p.area p.object (p.cell + d.cells)) ≡ None)
    → IsMove (Execute (core.Do (core.Store y (distance_tree d) x))) ws (known_of f m) Wrong ws (known_of f m')
unstore_answer f m m' x v read ws y u place p is_place d kept entered called same missing =
    move_as _ ws (known_of f m) Wrong _ ws (known_of f m) (known_of f m') refl (unstored_known f m m' same entered called)
    (store_wrong (known_of f m) ws x v read y u place p is_place d kept
    (λ h. ap (λ (s : Stored). value_of (p.byte + d.bytes) d.part d.width (slot_in s p.area p.object (p.cell + d.cells))) (sym same)
    ∙ missing (still_ordered m m' same entered called h)))
