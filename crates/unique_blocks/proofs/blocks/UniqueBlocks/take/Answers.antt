use Rattle.std.proofs.Common.{◌≡◌, ◌<◌, ◌≤◌, ◌+◌, ◌-◌, ◌/◌, ap, sym, subst, ◌∙◌, arith, nat_eq, true, false, List, ℕ}
use Rattle.std.specs.Prelude.{slice_index, slice_set}
use Rattle.std.proofs.lemmas.Bool.Decides.{nat_tests}
use Rattle.region_runtime.specs.Pool.{is_taken, word_of}
use Rattle.unique_blocks.specs.Blocks.{IsSound}
use Rattle.unique_blocks.specs.Calls.{IsFirstVacant, IsSlotTaken, slots_of}
use Rattle.unique_blocks.specs.Slots.{address_of, bit_of, place_of, with_slot_taken}
use Rattle.unique_blocks.proofs.Told.{filled, left, slot_few, slot_small, take_needs, take_says}
use Rattle.unique_blocks.proofs.blocks.UniqueBlocks.take.Goals as goal
use Rattle.unique_blocks.proofs.blocks.UniqueBlocks.take.Goals.{then-live-class, else-live-class}

pub take_slot-live-requires-clause-taken : goal.take_slot-live-requires-clause-taken
take_slot-live-requires-clause-taken c =
    let heads = c.self.inside.heads in let place = c.requires.place in
    let low = subst (λ i. i < 8) place c.requires.few in
    let begins = subst (λ i. 0 < slice_index heads i) place (subst (λ u. 0 < slice_index u.heads c.args.place) (sym c.self.view_is) c.requires.some) in
    subst (λ i. is_taken c.self.inside.pool (slice_index heads i - 1) ≡ true) (sym place)
    (take_needs c.self.inside.pool heads c.args.class c.self.invariant c.requires.class low begins).taken

pub take_slot-live-requires-clause-vacant : goal.take_slot-live-requires-clause-vacant
take_slot-live-requires-clause-vacant c =
    let heads = c.self.inside.heads in let place = c.requires.place in
    let low = subst (λ i. i < 8) place c.requires.few in
    let begins = subst (λ i. 0 < slice_index heads i) place (subst (λ u. 0 < slice_index u.heads c.args.place) (sym c.self.view_is) c.requires.some) in
    subst (λ i. word_of c.self.inside.pool (slice_index heads i - 1) 9 < 128) (sym place)
    (take_needs c.self.inside.pool heads c.args.class c.self.invariant c.requires.class low begins).live_few

pub take_slot-live-requires-clause-slot : goal.take_slot-live-requires-clause-slot
take_slot-live-requires-clause-slot c =
    let heads = c.self.inside.heads in let place = c.requires.place in
    let low = subst (λ i. i < 8) place c.requires.few in
    let begins = subst (λ i. 0 < slice_index heads i) place (subst (λ u. 0 < slice_index u.heads c.args.place) (sym c.self.view_is) c.requires.some) in
    let first = subst (λ i. IsFirstVacant (bit_of (word_of c.self.inside.pool) (slice_index heads i - 1)) c.first_vacant-slot.result) place
    c.first_vacant-slot.ensures.first in
    slot_few c.self.inside.pool heads c.args.class c.self.invariant c.requires.class low begins c.first_vacant-slot.result first

pub invariant_of-self : goal.invariant_of-self
invariant_of-self c =
    let old = c.self.inside.pool in let heads = c.self.inside.heads in let place = c.requires.place in let k = c.first_vacant-slot.result in
    let low = subst (λ i. i < 8) place c.requires.few in
    let begins = subst (λ i. 0 < slice_index heads i) place (subst (λ u. 0 < slice_index u.heads c.args.place) (sym c.self.view_is) c.requires.some) in
    let first = subst (λ i. IsFirstVacant (bit_of (word_of old) (slice_index heads i - 1)) k) place c.first_vacant-slot.ensures.first in
    let is = c.take_slot-live.ensures.slots ∙ ap (λ i. with_slot_taken (slice_index heads i - 1) k (slots_of old)) place in
    let full : nat_eq (word_of old (slice_index heads (place_of c.args.class) - 1) 9 + 1) (4096 / c.args.class) ≡ true =
    subst (λ i. nat_eq (word_of old (slice_index heads i - 1) 9 + 1) (4096 / c.args.class) ≡ true) place (let a = c.take_slot-live.ensures.live in
    let b = c.if-live-class.true in grind (arith, nat_tests)) in
    subst (λ i. IsSound (record { pool = c.take_slot-live.new.pool; heads = slice_set heads i c.read.result; touched = 0 })) (sym place)
    (filled old heads c.args.class c.self.invariant c.requires.class low begins k first c.take_slot-live.new.pool c.take_slot-live.ensures.kept is
    c.read.result (c.read.ensures.value ∙ ap (λ i. word_of c.take_slot-live.new.pool (slice_index heads i - 1) 10) place) full)

pub invariant_of-self-else-live-class : goal.invariant_of-self-else-live-class
invariant_of-self-else-live-class c =
    let old = c.self.inside.pool in let heads = c.self.inside.heads in let place = c.requires.place in let k = c.first_vacant-slot.result in
    let low = subst (λ i. i < 8) place c.requires.few in
    let begins = subst (λ i. 0 < slice_index heads i) place (subst (λ u. 0 < slice_index u.heads c.args.place) (sym c.self.view_is) c.requires.some) in
    let first = subst (λ i. IsFirstVacant (bit_of (word_of old) (slice_index heads i - 1)) k) place c.first_vacant-slot.ensures.first in
    let is = c.take_slot-live.ensures.slots ∙ ap (λ i. with_slot_taken (slice_index heads i - 1) k (slots_of old)) place in
    let full : nat_eq (word_of old (slice_index heads (place_of c.args.class) - 1) 9 + 1) (4096 / c.args.class) ≡ false =
    subst (λ i. nat_eq (word_of old (slice_index heads i - 1) 9 + 1) (4096 / c.args.class) ≡ false) place (let a = c.take_slot-live.ensures.live in
    let b = c.if-live-class.false in grind (arith, nat_tests)) in
    left old heads c.args.class c.self.invariant c.requires.class low begins k first c.take_slot-live.new.pool c.take_slot-live.ensures.kept is full

pub overflow_mul-result : goal.overflow_mul-result
overflow_mul-result c =
    let heads = c.self.inside.heads in let place = c.requires.place in
    let low = subst (λ i. i < 8) place c.requires.few in
    let begins = subst (λ i. 0 < slice_index heads i) place (subst (λ u. 0 < slice_index u.heads c.args.place) (sym c.self.view_is) c.requires.some) in
    let l = subst (λ i. slice_index heads i - 1 < 4096) (sym place) (take_needs c.self.inside.pool heads c.args.class c.self.invariant c.requires.class low
    begins).small in omega (arith, l)

pub overflow_add-result : goal.overflow_add-result
overflow_add-result c =
    let heads = c.self.inside.heads in let place = c.requires.place in
    let low = subst (λ i. i < 8) place c.requires.few in
    let begins = subst (λ i. 0 < slice_index heads i) place (subst (λ u. 0 < slice_index u.heads c.args.place) (sym c.self.view_is) c.requires.some) in
    let l = subst (λ i. slice_index heads i - 1 < 4096) (sym place) (take_needs c.self.inside.pool heads c.args.class c.self.invariant c.requires.class low
    begins).small in omega (arith, l)

pub overflow_add-result-2 : goal.overflow_add-result-2
overflow_add-result-2 c =
    let heads = c.self.inside.heads in let place = c.requires.place in let k = c.first_vacant-slot.result in
    let low = subst (λ i. i < 8) place c.requires.few in
    let begins = subst (λ i. 0 < slice_index heads i) place (subst (λ u. 0 < slice_index u.heads c.args.place) (sym c.self.view_is) c.requires.some) in
    let first = subst (λ i. IsFirstVacant (bit_of (word_of c.self.inside.pool) (slice_index heads i - 1)) k) place c.first_vacant-slot.ensures.first in
    let l = subst (λ i. slice_index heads i - 1 < 4096) (sym place) (take_needs c.self.inside.pool heads c.args.class c.self.invariant c.requires.class low
    begins).small in
    let m = slot_small c.self.inside.pool heads c.args.class c.self.invariant c.requires.class low begins k first in omega (arith, l, m)

pub returns-clause-taken : goal.returns-clause-taken
returns-clause-taken c =
    let old = c.self.inside.pool in let heads = c.self.inside.heads in let place = c.requires.place in let k = c.first_vacant-slot.result in
    let low = subst (λ i. i < 8) place c.requires.few in
    let begins = subst (λ i. 0 < slice_index heads i) place (subst (λ u. 0 < slice_index u.heads c.args.place) (sym c.self.view_is) c.requires.some) in
    let first = subst (λ i. IsFirstVacant (bit_of (word_of old) (slice_index heads i - 1)) k) place c.first_vacant-slot.ensures.first in
    let is = c.take_slot-live.ensures.slots ∙ ap (λ i. with_slot_taken (slice_index heads i - 1) k (slots_of old)) place in
    let says : (n : ℕ) (changed : List ℕ) → IsSlotTaken c.args.self.now (record { pool = c.take_slot-live.new.pool; heads = changed; touched = n }) c.args.class
    (address_of (slice_index heads c.args.place - 1) c.args.class k) =
    (λ n changed. subst (λ i. IsSlotTaken c.args.self.now (record { pool = c.take_slot-live.new.pool; heads = changed; touched = n }) c.args.class
    (address_of (slice_index heads i - 1) c.args.class k)) (sym place)
    (subst (λ u. IsSlotTaken u (record { pool = c.take_slot-live.new.pool; heads = changed; touched = n }) c.args.class
    (address_of (slice_index heads (place_of c.args.class) - 1) c.args.class k)) c.self.view_is
    (take_says old heads c.args.class c.self.invariant c.requires.class low begins k first c.take_slot-live.new.pool c.take_slot-live.ensures.kept is
    c.self.inside.touched n changed))) in
    elim c.if-live-class.branch [
      | then-live-class w ↦ subst (λ u. IsSlotTaken c.args.self.now u c.args.class (address_of (slice_index heads c.args.place - 1) c.args.class k))
          (sym w.self-is)
          (says w.read.new.touched (slice_set heads c.args.place w.read.result))
      | else-live-class w ↦ subst (λ u. IsSlotTaken c.args.self.now u c.args.class (address_of (slice_index heads c.args.place - 1) c.args.class k))
          (sym w.self-is)
          (says c.take_slot-live.new.touched heads)
    ]

pub first_vacant-slot-requires-clause-taken : goal.first_vacant-slot-requires-clause-taken
first_vacant-slot-requires-clause-taken c =
    let heads = c.self.inside.heads in let place = c.requires.place in
    let low = subst (λ i. i < 8) place c.requires.few in
    let begins = subst (λ i. 0 < slice_index heads i) place (subst (λ u. 0 < slice_index u.heads c.args.place) (sym c.self.view_is) c.requires.some) in
    subst (λ i. is_taken c.self.inside.pool (slice_index heads i - 1) ≡ true) (sym place)
    (take_needs c.self.inside.pool heads c.args.class c.self.invariant c.requires.class low begins).taken

pub first_vacant-slot-requires-clause-few : goal.first_vacant-slot-requires-clause-few
first_vacant-slot-requires-clause-few c = let v = ap (λ u. u.touched) c.self.view_is in omega (arith, v)

pub take_slot-live-requires-clause-few : goal.take_slot-live-requires-clause-few
take_slot-live-requires-clause-few c =
    let v = ap (λ u. u.touched) c.self.view_is in let a = c.first_vacant-slot.ensures.most in omega (arith, v, a)

pub read-requires-clause-few : goal.read-requires-clause-few
read-requires-clause-few c =
    let v = ap (λ u. u.touched) c.self.view_is in let a = c.first_vacant-slot.ensures.most in let b = c.take_slot-live.ensures.counts in
    omega (arith, v, a, b)

pub returns-clause-least : goal.returns-clause-least
returns-clause-least c =
    let v = ap (λ u. u.touched) c.self.view_is in let a = c.first_vacant-slot.ensures.least in let b = c.take_slot-live.ensures.counts in
    elim c.if-live-class.branch [
      | then-live-class w ↦ subst (λ u. c.args.self.now.touched + 10 ≤ u.touched) (sym w.self-is) (let d = w.read.ensures.least in omega (arith, v, a, b, d))
      | else-live-class w ↦ subst (λ u. c.args.self.now.touched + 10 ≤ u.touched) (sym w.self-is) (omega (arith, v, a, b))
    ]

pub returns-clause-most : goal.returns-clause-most
returns-clause-most c =
    let v = ap (λ u. u.touched) c.self.view_is in let a = c.first_vacant-slot.ensures.most in let b = c.take_slot-live.ensures.counts in
    elim c.if-live-class.branch [
      | then-live-class w ↦ subst (λ u. u.touched ≤ c.args.self.now.touched + 18) (sym w.self-is) (let d = w.read.ensures.most in omega (arith, v, a, b, d))
      | else-live-class w ↦ subst (λ u. u.touched ≤ c.args.self.now.touched + 18) (sym w.self-is) (omega (arith, v, a, b))
    ]
