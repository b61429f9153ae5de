-- Bytes are loaded and stored by their addresses.
use Rattle.std.proofs.Common.{◌≡◌, ℕ, ◌-◌, ◌<◌, ◌≤◌, true, List, length, Some, None, sym, ap, subst, ◌∙◌, arith}
use Rattle.std.specs.Prelude.{slice_index, slice_set, if◌then◌else◌}
use Rattle.std.proofs.lemmas.Bool.Decides.{nat_tests}
use Rattle.std.proofs.lemmas.Grind.{common_steps}
use Rattle.arena_laws.specs.Counts.{put}
use Rattle.arena_laws.specs.Holdings.{arena_base, is_in_arena}
use Rattle.arena_laws.specs.Laws.{loaded, stored}
use Rattle.cyc_arena.specs.Plain.{Plain, IsSound, byte_at, holdings_of}

in_arena : (s : Plain) (at : ℕ) → IsSound s → arena_base ≤ at → at - arena_base < length s.bytes → is_in_arena (holdings_of s) at ≡ true
in_arena s at sound b l = let e = sound.payload in grind (arith, nat_tests)

byte_in : (bytes : List ℕ) (at : ℕ) → arena_base ≤ at → byte_at bytes at ≡ slice_index bytes (at - arena_base)
unfolding byte_at
byte_in bytes at b = grind (arith, nat_tests)

byte_set : (bytes : List ℕ) (at x : ℕ) → arena_base ≤ at → at - arena_base < length bytes → (q : ℕ) →
    byte_at (slice_set bytes (at - arena_base) x) q ≡ put at x (byte_at bytes) q
unfolding byte_at
byte_set bytes at x b l q = grind (arith, nat_tests, common_steps)

pub load_in : (s : Plain) (at v : ℕ) → IsSound s → arena_base ≤ at → at - arena_base < length s.bytes → v ≡ slice_index s.bytes (at - arena_base) →
    Some v ≡ loaded at (holdings_of s) (byte_at s.bytes)
load_in s at v sound b l e =
    subst (λ t. Some v ≡ (if t then Some (byte_at s.bytes at) else None)) (sym (in_arena s at sound b l)) (ap Some (e ∙ sym (byte_in s.bytes at b)))

pub store_in : (s : Plain) (at x : ℕ) → IsSound s → arena_base ≤ at → at - arena_base < length s.bytes →
    byte_at (slice_set s.bytes (at - arena_base) x) ≡ stored at x (holdings_of s) (byte_at s.bytes)
store_in s at x sound b l =
    subst (λ t. byte_at (slice_set s.bytes (at - arena_base) x) ≡ (if t then put at x (byte_at s.bytes) else byte_at s.bytes))
    (sym (in_arena s at sound b l)) (λ i q. byte_set s.bytes at x b l q i)
