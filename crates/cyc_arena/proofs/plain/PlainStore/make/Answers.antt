use Rattle.std.proofs.Common.{subst, sym, ◌+◌, true, false}
use Rattle.std.specs.Prelude.{Some, None}
use Rattle.arena_laws.specs.Counts.{is_full}
use Rattle.arena_laws.specs.Lawful.{Grants}
use Rattle.arena_laws.specs.Laws.{made}
use Rattle.cyc_arena.specs.Plain.{Finds, IsLowest}
use Rattle.cyc_arena.proofs.Along.{does_along, test_along}
use Rattle.cyc_arena.proofs.Made.{made_sound_as, made_does_as, not_full, all_taken}
use Rattle.cyc_arena.proofs.plain.PlainStore.make.Goals as goal

pub invariant_of-self : goal.invariant_of-self
invariant_of-self c = made_sound_as _ c.in-Some.page c.args.standing c.self.invariant
    (subst (λ xs. Finds 0 xs (Some c.in-Some.page)) c.deref.ensures.value c.in-Some.ensures.found)
    (subst (λ xs. IsLowest 0 xs (Some c.in-Some.page)) c.deref.ensures.value c.in-Some.ensures.lowest) _ c.used_with-self-inside.ensures

pub returns-in-Some-clause-does : goal.returns-in-Some-clause-does
returns-in-Some-clause-does c =
    let p = c.in-Some.page in
    does_along (λ h. made c.args.standing (Grants (p + 1)) h) _ _ _ _ c.self.view_is
    (made_does_as _ p c.args.standing c.self.invariant (subst (λ xs. Finds 0 xs (Some p)) c.deref.ensures.value c.in-Some.ensures.found)
    (subst (λ xs. IsLowest 0 xs (Some p)) c.deref.ensures.value c.in-Some.ensures.lowest) _ c.used_with-self-inside.ensures)

pub returns-in-Some-clause-full : goal.returns-in-Some-clause-full
returns-in-Some-clause-full c =
    let p = c.in-Some.page in
    test_along (λ h. is_full h.counts) false _ _ c.self.view_is
    (sym (not_full _ p c.args.standing c.self.invariant (subst (λ xs. Finds 0 xs (Some p)) c.deref.ensures.value c.in-Some.ensures.found)
    (subst (λ xs. IsLowest 0 xs (Some p)) c.deref.ensures.value c.in-Some.ensures.lowest)))

pub returns-in-None-clause-full : goal.returns-in-None-clause-full
returns-in-None-clause-full c =
    test_along (λ h. is_full h.counts) true _ _ c.self.view_is
    (sym (all_taken _ c.self.invariant (subst (λ xs. Finds 0 xs None) c.deref.ensures.value c.in-None.ensures.found)))
