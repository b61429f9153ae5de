-- Bytes are loaded and stored by their addresses, and addresses are live.
use Rattle.std.proofs.Common.{◌≡◌, ℕ, ◌-◌, ◌/◌, ◌<◌, ◌≤◌, Bool, true, false, length, Option, Some, None, nat_lt, refl, sym, ap, subst, ◌∙◌, arith}
use Rattle.std.specs.Prelude.{if◌then◌else◌, slice_get, slice_index, slice_set}
use Rattle.std.proofs.lemmas.Bool.{ltb-true, ltb-false}
use Rattle.std.proofs.lemmas.Bool.Decides.{nat_tests}
use Rattle.std.proofs.lemmas.Grind.{common_steps}
use Rattle.std.proofs.lemmas.List.{set_past}
use Rattle.std.proofs.lemmas.Option.{slice_get-get_or, slice_get_past}
use Rattle.arena_laws.specs.Counts.{put}
use Rattle.arena_laws.specs.Holdings.{arena_base, is_in_arena, is_live_in, is_some}
use Rattle.arena_laws.specs.Laws.{loaded, stored}
use Rattle.region_runtime.specs.Chains.{times}
use Rattle.region_runtime.specs.Headers.{word_in, owner_of, used_of, is_live_number, pages_of, holder_of}
use Rattle.region_runtime.specs.Pool.{Pooled, shape_of, byte_at, held, owned, page_at, place_at}
use Rattle.region_runtime.specs.Sound.{IsSound}
use Rattle.region_runtime.proofs.Words.{word_beyond}
use Rattle.region_runtime.proofs.Ordered.{live_within}
use Rattle.region_runtime.proofs.Owners.{owner_below, owner_there, owned_nothing}

byte_in : (p : Pooled) (at : ℕ) → arena_base ≤ at → byte_at p at ≡ slice_index p.bytes (at - arena_base)
unfolding byte_at
byte_in p at b = grind (arith, nat_tests)

-- an address from the arena's first on is in it where its place is in the payload
in_payload : (p : Pooled) → IsSound p → (at : ℕ) → arena_base ≤ at → is_in_arena (held p) at ≡ nat_lt (at - arena_base) (length p.bytes)
in_payload p s at b = let a = s.whole.payload in let h = s.whole.headers in grind (arith, nat_tests, a, h)

pub load_by : (fields value : Pooled) → fields ≡ value → IsSound fields → (at : ℕ) → arena_base ≤ at → (r : Option ℕ) →
    r ≡ slice_get fields.bytes (at - arena_base) → r ≡ loaded at (held value) (byte_at value)
load_by fields value v s at b r e =
    e ∙ by (nat_lt (at - arena_base) (length fields.bytes)) refl ∙ ap (λ (p : Pooled). loaded at (held p) (byte_at p)) v
  where
    by : (t : Bool) → nat_lt (at - arena_base) (length fields.bytes) ≡ t → slice_get fields.bytes (at - arena_base) ≡ loaded at (held fields) (byte_at fields)
    by true t =
        rw (in_payload fields s at b ∙ t) (slice_get-get_or fields.bytes (at - arena_base) 0 (ltb-true (at - arena_base) (length fields.bytes) t)
        ∙ ap Some (sym (byte_in fields at b)))
    by false t =
        rw (in_payload fields s at b ∙ t) (slice_get_past fields.bytes (at - arena_base) (ltb-false (at - arena_base) (length fields.bytes) t))

same_bytes : (old new : Pooled) → new.bytes ≡ old.bytes → byte_at new ≡ byte_at old
unfolding byte_at
same_bytes old new e = ap (λ bs. λ q. if nat_lt q arena_base then 0 else slice_index bs (q - arena_base)) e

byte_set : (old new : Pooled) (at x : ℕ) → arena_base ≤ at → at - arena_base < length old.bytes → new.bytes ≡ slice_set old.bytes (at - arena_base) x →
    (q : ℕ) → byte_at new q ≡ put at x (byte_at old) q
unfolding byte_at
byte_set old new at x b l e q = let d = ap (λ bs. slice_index bs (q - arena_base)) e in grind (arith, nat_tests, common_steps)

pub said_by : (fields value : Pooled) → fields ≡ value → IsSound fields → (at : ℕ) → arena_base ≤ at
    → nat_lt (at - arena_base) (length fields.bytes) ≡ is_in_arena (held value) at
said_by fields value v s at b = sym (in_payload fields s at b) ∙ ap (λ (p : Pooled). is_in_arena (held p) at) v

pub store_by : (fields value new : Pooled) → fields ≡ value → IsSound fields → (at x : ℕ) → arena_base ≤ at →
    new.bytes ≡ slice_set fields.bytes (at - arena_base) x → byte_at new ≡ stored at x (held value) (byte_at value)
store_by fields value new v s at x b e =
    by (nat_lt (at - arena_base) (length fields.bytes)) refl ∙ ap (λ (p : Pooled). stored at x (held p) (byte_at p)) v
  where
    by : (t : Bool) → nat_lt (at - arena_base) (length fields.bytes) ≡ t → byte_at new ≡ stored at x (held fields) (byte_at fields)
    by true t =
        rw (in_payload fields s at b ∙ t) (λ j q. byte_set fields new at x b (ltb-true (at - arena_base) (length fields.bytes) t) e q j)
    by false t =
        rw (in_payload fields s at b ∙ t) (same_bytes fields new (e ∙ set_past fields.bytes (at - arena_base) x
        (ltb-false (at - arena_base) (length fields.bytes) t)))

pub store_out : (fields value new : Pooled) → fields ≡ value → (at x : ℕ) → is_in_arena (held fields) at ≡ false → byte_at new ≡ byte_at fields →
    byte_at new ≡ stored at x (held value) (byte_at value)
store_out fields value new v at x i e = subst (λ m. byte_at new ≡ stored at x (held m) (byte_at m)) v (rw i e)

pub below_out : (p : Pooled) (at : ℕ) → at < arena_base → is_in_arena (held p) at ≡ false
below_out p at l = grind (arith, nat_tests)

-- ---- live addresses

pub live_below : (p : Pooled) (at : ℕ) → at < arena_base → false ≡ is_live_in (held p) at
live_below p at l = sym (ap is_some (owner_below (holder_of (word_in p.words)) (used_of (word_in p.words)) at (grind (arith, nat_tests))))

owned_by : (o : Option ℕ) → is_some (owned o true) ≡ is_some o
owned_by None = refl
owned_by (Some h) = refl

dead_there : (p : Pooled) (at : ℕ) → arena_base ≤ at → used_of (word_in p.words) (page_at at) ≤ place_at at → false ≡ is_live_in (held p) at
dead_there p at b l =
    let n : nat_lt (place_at at) (used_of (word_in p.words) (page_at at)) ≡ false = grind (arith, nat_tests) in
    let o = holder_of (word_in p.words) (page_at at) in
    sym (ap is_some (owner_there (holder_of (word_in p.words)) (used_of (word_in p.words)) at (grind (arith, nat_tests)) ∙ ap (owned o) n ∙ owned_nothing o))

pub live_above : (p : Pooled) (at : ℕ) → arena_base ≤ at → length p.words / 16 ≤ (at - arena_base) / 4096 → false ≡ is_live_in (held p) at
live_above p at b l = let z = word_beyond p.words (page_at at) 2 l in dead_there p at b (omega (arith, z))

pub live_waste : (fields value : Pooled) → fields ≡ value → (at u : ℕ) → arena_base ≤ at → u ≡ word_in fields.words (page_at at) 2 → u ≤ place_at at →
    false ≡ is_live_in (held value) at
live_waste fields value v at u b e l = subst (λ m. false ≡ is_live_in (held m) at) v (dead_there fields at b (omega (arith, e, l)))

pub live_held : (fields value : Pooled) → fields ≡ value → (at u : ℕ) → arena_base ≤ at → u ≡ word_in fields.words (page_at at) 2 → place_at at < u →
    (r : Bool) → r ≡ is_some (holder_of (word_in fields.words) (page_at at)) → r ≡ is_live_in (held value) at
live_held fields value v at u b e l r d =
    let n : nat_lt (place_at at) (used_of (word_in fields.words) (page_at at)) ≡ true = grind (arith, nat_tests) in
    let o = holder_of (word_in fields.words) (page_at at) in
    subst (λ m. r ≡ is_live_in (held m) at) v (d ∙ sym (ap is_some (owner_there (holder_of (word_in fields.words)) (used_of (word_in fields.words)) at
    (grind (arith, nat_tests)) ∙ ap (owned o) n) ∙ owned_by o))

pub chain_within : (p : Pooled) → IsSound p → (h q : ℕ) → is_live_number (owner_of (word_in p.words)) h ≡ true → 0 < times q (pages_of (word_in p.words) h) →
    q < length p.words / 16
chain_within p s h q e l =
    let w = live_within (shape_of p) s.ordered h e q l in let b = s.ordered.begun in omega (arith, w, b)
