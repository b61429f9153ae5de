use Rattle.std.proofs.Common.{subst, ◌≡◌, ◌+◌, ◌*◌, ◌/◌, ◌%◌, ◌∙◌, length, ap, true, false, arith}
use Rattle.std.specs.Prelude.{Some, None}
use Rattle.arena_laws.specs.Counts.{is_full_for_slot}
use Rattle.arena_laws.specs.Holdings.{arena_base}
use Rattle.arena_laws.specs.Lawful.{Grants}
use Rattle.arena_laws.specs.Laws.{unique_alloc}
use Rattle.cyc_arena.specs.Plain.{Finds, IsLowest}
use Rattle.cyc_arena.proofs.Along.{does_along, test_along}
use Rattle.cyc_arena.proofs.Filled.{filled_long}
use Rattle.cyc_arena.proofs.Uniques.{slot_granted, front_granted_as, all_refused}
use Rattle.cyc_arena.proofs.plain.PlainStoreBlockStore.unique_alloc.Goals as goal

pub invariant_of-self : goal.invariant_of-self
invariant_of-self c = (slot_granted _ c.args.bytes _ c.self.invariant c.if-bytes-gt-PAGE.false c.class_for-size.ensures c.in-Some.slot
    (subst (λ xs. Finds (2 * c.class_for-size.result + 2) xs (Some c.in-Some.slot)) c.deref.ensures.value c.in-Some.ensures.found)).sound

pub returns-in-Some-clause-does : goal.returns-in-Some-clause-does
returns-in-Some-clause-does c =
    does_along (λ m. unique_alloc c.args.bytes (Grants (arena_base + 4096 *
    (c.in-Some.slot / 128) + c.in-Some.slot % 128 * c.class_for-size.result)) m) _ _ _ _ c.self.view_is
    (slot_granted _ c.args.bytes _ c.self.invariant c.if-bytes-gt-PAGE.false c.class_for-size.ensures c.in-Some.slot
    (subst (λ xs. Finds (2 * c.class_for-size.result + 2) xs (Some c.in-Some.slot)) c.deref.ensures.value c.in-Some.ensures.found)).does

pub returns-in-Some-clause-full : goal.returns-in-Some-clause-full
returns-in-Some-clause-full c =
    test_along (λ m. is_full_for_slot c.args.bytes m.counts) false _ _ c.self.view_is
    (slot_granted _ c.args.bytes _ c.self.invariant c.if-bytes-gt-PAGE.false c.class_for-size.ensures c.in-Some.slot
    (subst (λ xs. Finds (2 * c.class_for-size.result + 2) xs (Some c.in-Some.slot)) c.deref.ensures.value c.in-Some.ensures.found)).free

pub index_mut-requires-in-Some-find-2 : goal.index_mut-requires-in-Some-find-2
index_mut-requires-in-Some-find-2 c =
    let f = subst (λ xs. Finds 0 xs (Some c.in-Some-find.page)) c.deref-in-None.ensures.value c.in-Some-find.ensures.found in
    let l = f.0 in let n = c.self.invariant.slots_long in
    let m : length c.fill.new.words.items ≡ length c.self.inside.slots.items = ap length c.fill.ensures
    ∙ filled_long (4096 / c.class_for-size.result) (128 * c.in-Some-find.page) (2 * c.class_for-size.result + 2) c.self.inside.slots.items in
    omega (arith, l, n, m)

pub invariant_of-self-in-Some-find : goal.invariant_of-self-in-Some-find
invariant_of-self-in-Some-find c = (front_granted_as _ c.args.bytes _ c.self.invariant c.if-bytes-gt-PAGE.false c.class_for-size.ensures
    (subst (λ xs. Finds (2 * c.class_for-size.result + 2) xs None) c.deref.ensures.value c.in-None.ensures.found) c.in-Some-find.page
    (subst (λ xs. Finds 0 xs (Some c.in-Some-find.page)) c.deref-in-None.ensures.value c.in-Some-find.ensures.found)
    (subst (λ xs. IsLowest 0 xs (Some c.in-Some-find.page)) c.deref-in-None.ensures.value c.in-Some-find.ensures.lowest) _ c.fill.ensures _
    c.used_with-self-inside.ensures).sound

pub returns-in-Some-find-clause-does : goal.returns-in-Some-find-clause-does
returns-in-Some-find-clause-does c =
    does_along (λ m. unique_alloc c.args.bytes (Grants (arena_base + 4096 * c.in-Some-find.page)) m) _ _ _ _ c.self.view_is
    (front_granted_as _ c.args.bytes _ c.self.invariant c.if-bytes-gt-PAGE.false c.class_for-size.ensures
    (subst (λ xs. Finds (2 * c.class_for-size.result + 2) xs None) c.deref.ensures.value c.in-None.ensures.found) c.in-Some-find.page
    (subst (λ xs. Finds 0 xs (Some c.in-Some-find.page)) c.deref-in-None.ensures.value c.in-Some-find.ensures.found)
    (subst (λ xs. IsLowest 0 xs (Some c.in-Some-find.page)) c.deref-in-None.ensures.value c.in-Some-find.ensures.lowest) _ c.fill.ensures _
    c.used_with-self-inside.ensures).does

pub returns-in-Some-find-clause-full : goal.returns-in-Some-find-clause-full
returns-in-Some-find-clause-full c =
    test_along (λ m. is_full_for_slot c.args.bytes m.counts) false _ _ c.self.view_is
    (front_granted_as _ c.args.bytes _ c.self.invariant c.if-bytes-gt-PAGE.false c.class_for-size.ensures
    (subst (λ xs. Finds (2 * c.class_for-size.result + 2) xs None) c.deref.ensures.value c.in-None.ensures.found) c.in-Some-find.page
    (subst (λ xs. Finds 0 xs (Some c.in-Some-find.page)) c.deref-in-None.ensures.value c.in-Some-find.ensures.found)
    (subst (λ xs. IsLowest 0 xs (Some c.in-Some-find.page)) c.deref-in-None.ensures.value c.in-Some-find.ensures.lowest) _ c.fill.ensures _
    c.used_with-self-inside.ensures).free

pub returns-in-None-find-clause-full : goal.returns-in-None-find-clause-full
returns-in-None-find-clause-full c =
    test_along (λ m. is_full_for_slot c.args.bytes m.counts) true _ _ c.self.view_is
    (all_refused _ c.args.bytes _ c.self.invariant c.if-bytes-gt-PAGE.false c.class_for-size.ensures
    (subst (λ xs. Finds (2 * c.class_for-size.result + 2) xs None) c.deref.ensures.value c.in-None.ensures.found)
    (subst (λ xs. Finds 0 xs None) c.deref-in-None.ensures.value c.in-None-find.ensures.found))
