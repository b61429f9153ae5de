use Rattle.std.proofs.Common.{◌≡◌, ◌+◌, ◌/◌, ap, sym, subst, ◌∙◌, arith, nat_eq, true, false}
use Rattle.std.specs.Prelude.{slice_index, slice_set}
use Rattle.std.proofs.lemmas.Bool.Decides.{nat_tests}
use Rattle.region_runtime.specs.Pool.{word_of}
use Rattle.unique_blocks.specs.Blocks.{IsSound, slots_in}
use Rattle.unique_blocks.specs.Calls.{IsSlotGiven, slots_of}
use Rattle.unique_blocks.specs.Slots.{address_of, place_of, with_next}
use Rattle.unique_blocks.proofs.Told.{back, back_says, give_needs, more, more_says}
use Rattle.unique_blocks.proofs.Classes.{place_low}
use Rattle.unique_blocks.proofs.blocks.UniqueBlocks.give.Goals as goal

pub give_slot-live-requires-clause-taken : goal.give_slot-live-requires-clause-taken
give_slot-live-requires-clause-taken c =
    let old = c.self.inside.pool in let heads = c.self.inside.heads in
    let class = ap (λ u. (slots_in u).class c.args.page) c.self.view_is ∙ c.requires.class in
    let live = ap (λ u. (slots_in u).bit c.args.page c.args.slot) c.self.view_is ∙ c.requires.live in
    (give_needs old heads c.args.page c.args.class c.args.slot c.self.invariant class c.requires.some (place_low c.args.class) c.requires.slot live).taken

pub give_slot-live-requires-clause-slot : goal.give_slot-live-requires-clause-slot
give_slot-live-requires-clause-slot c =
    let old = c.self.inside.pool in let heads = c.self.inside.heads in
    let class = ap (λ u. (slots_in u).class c.args.page) c.self.view_is ∙ c.requires.class in
    let live = ap (λ u. (slots_in u).bit c.args.page c.args.slot) c.self.view_is ∙ c.requires.live in
    (give_needs old heads c.args.page c.args.class c.args.slot c.self.invariant class c.requires.some (place_low c.args.class) c.requires.slot live).slot

pub give_slot-live-requires-clause-some : goal.give_slot-live-requires-clause-some
give_slot-live-requires-clause-some c =
    let old = c.self.inside.pool in let heads = c.self.inside.heads in
    let class = ap (λ u. (slots_in u).class c.args.page) c.self.view_is ∙ c.requires.class in
    let live = ap (λ u. (slots_in u).bit c.args.page c.args.slot) c.self.view_is ∙ c.requires.live in
    (give_needs old heads c.args.page c.args.class c.args.slot c.self.invariant class c.requires.some (place_low c.args.class) c.requires.slot live).any

pub set_next-requires-clause-taken : goal.set_next-requires-clause-taken
set_next-requires-clause-taken c =
    let old = c.self.inside.pool in let heads = c.self.inside.heads in
    let class = ap (λ u. (slots_in u).class c.args.page) c.self.view_is ∙ c.requires.class in
    let live = ap (λ u. (slots_in u).bit c.args.page c.args.slot) c.self.view_is ∙ c.requires.live in
    let t = (give_needs old heads c.args.page c.args.class c.args.slot c.self.invariant class c.requires.some (place_low c.args.class) c.requires.slot
    live).taken in
    ap (λ f. f c.args.page) c.give_slot-live.ensures.kept.taken ∙ t

pub overflow_add-self : goal.overflow_add-self
overflow_add-self c =
    let old = c.self.inside.pool in let heads = c.self.inside.heads in
    let class = ap (λ u. (slots_in u).class c.args.page) c.self.view_is ∙ c.requires.class in
    let live = ap (λ u. (slots_in u).bit c.args.page c.args.slot) c.self.view_is ∙ c.requires.live in
    let l = (give_needs old heads c.args.page c.args.class c.args.slot c.self.invariant class c.requires.some (place_low c.args.class) c.requires.slot
    live).small in omega (arith, l)

pub invariant_of-self : goal.invariant_of-self
invariant_of-self c =
    let old = c.self.inside.pool in let heads = c.self.inside.heads in let p = c.args.page in
    let class = ap (λ u. (slots_in u).class c.args.page) c.self.view_is ∙ c.requires.class in
    let live = ap (λ u. (slots_in u).bit c.args.page c.args.slot) c.self.view_is ∙ c.requires.live in
    let full : nat_eq (word_of old p 9) (4096 / c.args.class) ≡ true = (let a = c.give_slot-live.ensures.live in let b = c.if-live-class.true in
    grind (arith, nat_tests)) in
    let place = c.place_for-place.ensures.place in
    subst (λ i. IsSound (record { pool = c.set_next.new.pool; heads = slice_set heads i (p + 1); touched = 0 })) (sym place)
    (back old heads p c.args.class c.args.slot c.self.invariant class c.requires.some (place_low c.args.class) c.requires.slot live
    c.give_slot-live.new.pool c.set_next.new.pool c.give_slot-live.ensures.kept c.set_next.ensures.kept c.give_slot-live.ensures.slots
    (c.set_next.ensures.slots ∙ ap (λ i. with_next p (slice_index heads i) (slots_of c.give_slot-live.new.pool)) place) full)

pub invariant_of-self-else-live-class : goal.invariant_of-self-else-live-class
invariant_of-self-else-live-class c =
    let old = c.self.inside.pool in let heads = c.self.inside.heads in let p = c.args.page in
    let class = ap (λ u. (slots_in u).class c.args.page) c.self.view_is ∙ c.requires.class in
    let live = ap (λ u. (slots_in u).bit c.args.page c.args.slot) c.self.view_is ∙ c.requires.live in
    let full : nat_eq (word_of old p 9) (4096 / c.args.class) ≡ false = (let a = c.give_slot-live.ensures.live in let b = c.if-live-class.false in
    grind (arith, nat_tests)) in
    more old heads p c.args.class c.args.slot c.self.invariant class c.requires.some (place_low c.args.class) c.requires.slot live
    c.give_slot-live.new.pool c.give_slot-live.ensures.kept c.give_slot-live.ensures.slots full

pub returns-then-live-class-clause-given : goal.returns-then-live-class-clause-given
returns-then-live-class-clause-given c =
    let old = c.self.inside.pool in let heads = c.self.inside.heads in let p = c.args.page in
    let class = ap (λ u. (slots_in u).class c.args.page) c.self.view_is ∙ c.requires.class in
    let live = ap (λ u. (slots_in u).bit c.args.page c.args.slot) c.self.view_is ∙ c.requires.live in
    let full : nat_eq (word_of old p 9) (4096 / c.args.class) ≡ true = (let a = c.give_slot-live.ensures.live in let b = c.if-live-class.true in
    grind (arith, nat_tests)) in
    let place = c.place_for-place.ensures.place in
    let at = address_of p c.args.class c.args.slot in
    subst (λ i. IsSlotGiven c.args.self.now (record { pool = c.set_next.new.pool; heads = slice_set heads i (p + 1); touched = c.set_next.new.touched })
    c.args.class at) (sym place)
    (subst (λ u. IsSlotGiven u (record {
      pool = c.set_next.new.pool;
      heads = slice_set heads (place_of c.args.class) (p + 1);
      touched = c.set_next.new.touched;
    }) c.args.class at) c.self.view_is
    (back_says old heads p c.args.class c.args.slot c.self.invariant class c.requires.some (place_low c.args.class) c.requires.slot live
    c.give_slot-live.new.pool c.set_next.new.pool c.give_slot-live.ensures.kept c.set_next.ensures.kept c.give_slot-live.ensures.slots
    (c.set_next.ensures.slots ∙ ap (λ i. with_next p (slice_index heads i) (slots_of c.give_slot-live.new.pool)) place) full c.self.inside.touched
    c.set_next.new.touched))

pub returns-else-live-class-clause-given : goal.returns-else-live-class-clause-given
returns-else-live-class-clause-given c =
    let old = c.self.inside.pool in let heads = c.self.inside.heads in let p = c.args.page in
    let class = ap (λ u. (slots_in u).class c.args.page) c.self.view_is ∙ c.requires.class in
    let live = ap (λ u. (slots_in u).bit c.args.page c.args.slot) c.self.view_is ∙ c.requires.live in
    let full : nat_eq (word_of old p 9) (4096 / c.args.class) ≡ false = (let a = c.give_slot-live.ensures.live in let b = c.if-live-class.false in
    grind (arith, nat_tests)) in
    subst (λ u. IsSlotGiven u (record { pool = c.give_slot-live.new.pool; heads = heads; touched = c.give_slot-live.new.touched }) c.args.class
    (address_of p c.args.class c.args.slot)) c.self.view_is
    (more_says old heads p c.args.class c.args.slot c.self.invariant class c.requires.some (place_low c.args.class) c.requires.slot live
    c.give_slot-live.new.pool c.give_slot-live.ensures.kept c.give_slot-live.ensures.slots full c.self.inside.touched c.give_slot-live.new.touched)

pub give_slot-live-requires-clause-few : goal.give_slot-live-requires-clause-few
give_slot-live-requires-clause-few c = let v = ap (λ u. u.touched) c.self.view_is in omega (arith, v)

pub set_next-requires-clause-few : goal.set_next-requires-clause-few
set_next-requires-clause-few c = let v = ap (λ u. u.touched) c.self.view_is in let a = c.give_slot-live.ensures.counts in omega (arith, v, a)

pub returns-then-live-class-clause-least : goal.returns-then-live-class-clause-least
returns-then-live-class-clause-least c = let v = ap (λ u. u.touched) c.self.view_is in let a = c.give_slot-live.ensures.counts in let b =
    c.set_next.ensures.counts in omega (arith, v, a, b)

pub returns-then-live-class-clause-most : goal.returns-then-live-class-clause-most
returns-then-live-class-clause-most c = let v = ap (λ u. u.touched) c.self.view_is in let a = c.give_slot-live.ensures.counts in let b =
    c.set_next.ensures.counts in omega (arith, v, a, b)

pub returns-else-live-class-clause-least : goal.returns-else-live-class-clause-least
returns-else-live-class-clause-least c = let v = ap (λ u. u.touched) c.self.view_is in let a = c.give_slot-live.ensures.counts in omega (arith, v, a)

pub returns-else-live-class-clause-most : goal.returns-else-live-class-clause-most
returns-else-live-class-clause-most c = let v = ap (λ u. u.touched) c.self.view_is in let a = c.give_slot-live.ensures.counts in omega (arith, v, a)
