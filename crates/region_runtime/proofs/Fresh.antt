-- A pool just made.
use Rattle.std.proofs.Common.{◌≡◌, ℕ, zero, suc, ◌+◌, ◌-◌, ◌*◌, ◌/◌, ◌≤◌, Bool, true, false, List, length, Some, None, nat_lt, refl, ap, ◌∙◌, arith}
use Rattle.std.specs.Prelude.{slice_index, if◌then◌else◌, ◌&&◌}
use Rattle.std.proofs.lemmas.Bool.Decides.{nat_tests}
use Rattle.raw_pages.specs.Raw.{Raw, AreZero, is_no_page_count}
use Rattle.arena_laws.specs.declared.standing.Standing.TheVariants.{Lexical}
use Rattle.arena_laws.specs.Holdings.{arena_base, fresh}
use Rattle.region_runtime.specs.Chains.{times}
use Rattle.region_runtime.specs.Headers.{word_in, link_of, owner_of, used_of, heap_mark, is_live_number, pages_of, holder_of, marked}
use Rattle.region_runtime.specs.Pool.{Pooled, Shape, shape_of, byte_at, held, is_taken, last_of, left_of, owned, owner_at, page_at, place_at, tag_of, taken_by}
use Rattle.region_runtime.specs.Sound.{IsSound}
use Rattle.region_runtime.proofs.Words.{live_some, live_own, last_of_heap, last_of_other}
use Rattle.region_runtime.proofs.Chains.{follow_zero, times_none}
use Rattle.region_runtime.proofs.Places.{uses_dead}
use Rattle.region_runtime.proofs.Owners.{owner_below, owner_there, owned_nothing}
use Rattle.region_runtime.proofs.Held.{taken_heap, taken_other}
use Rattle.region_runtime.proofs.Tags.{not_taken, tag_dead}

-- the pool, of pages that are all 0
abbrev pub new_pool : Raw → Pooled
new_pool r = record { words = r.words; bytes = r.bytes; first_freed = 0; freed = 0; ever_used = 0; heap_last = 0; touched = 0 }

zero_both : (b : Bool) → ◌≡◌ {A = ℕ} (if b then 0 else 0) 0
zero_both true = refl
zero_both false = refl

word_zero : (ws : List ℕ) → ((k : ℕ) → slice_index ws k ≡ 0) → (p f : ℕ) → word_in ws p f ≡ 0
unfolding word_in
word_zero ws z p f = let e = z (16 * p + f) in rw e (zero_both (nat_lt p (length ws / 16) && nat_lt f 16))

none_marked : (owner : ℕ → ℕ) (n : ℕ) → ((p : ℕ) → owner p ≡ 0) → marked heap_mark owner n ≡ 0
unfolding marked
none_marked owner zero z = refl
none_marked owner (suc n) z = let e = z n in rw e (none_marked owner n z)

module _ (r : Raw) (pages : ℕ) (zeros : AreZero pages r) where
  abbrev t : Shape
  t = shape_of (new_pool r)

  z : (p f : ℕ) → word_in r.words p f ≡ 0
  z = word_zero r.words zeros.words

  dead : (h : ℕ) → is_live_number (owner_of t.word) h ≡ false
  dead h = by_live (is_live_number (owner_of t.word) h) refl
    where
      by_live : (b : Bool) → is_live_number (owner_of t.word) h ≡ b → is_live_number (owner_of t.word) h ≡ false
      by_live false e = e
      by_live true e =
          let l = live_some (owner_of t.word) h e in let o = live_own (owner_of t.word) h e in let k = z (h - 1) 1 in absurd (omega (arith, l, o, k))

  not_live : (h : ℕ) → is_live_number (owner_of t.word) h ≡ true → ⊥
  not_live h e = let d = dead h in cc

  pages_are : length r.words / 16 ≡ pages
  pages_are = let h = zeros.headers in omega (arith, h)

  pub fresh_sound : is_no_page_count pages ≡ false → IsSound (new_pool r)
  fresh_sound n =
      let h = zeros.headers in let b = zeros.payload in let few : pages ≤ 4096 = grind (arith, nat_tests) in
      record {
        whole = record { payload = omega (arith, h, b); headers = omega (arith, h); within = omega (arith, h, few) };
        ordered = record {
          few = let p = pages_are in omega (arith, p, few);
          begun = omega arith;
          chains = record {
            once = λ p. let f = ap (times p) (follow_zero (link_of t.word) 0) ∙ times_none p in let o = z p 1 in let u = uses_dead (owner_of t.word)
                (pages_of t.word) p (omega (arith, o)) (dead (owner_of t.word p)) in grind (arith, nat_tests);
            named = λ h p e l. absurd (not_live h e);
            first = λ h e. absurd (not_live h e);
          };
          rounded = λ p. let e = z p 2 in grind (arith, nat_tests);
          within = λ p. let e = z p 2 in omega (arith, e);
          current = λ h e. absurd (not_live h e);
          heap = λ p e. absurd (omega (arith, e));
          unused = record { blank = λ p f l. z p f };
        };
      }

  owner_none : (q : ℕ) → owner_at (holder_of t.word) (used_of t.word) q ≡ None
  owner_none q = by_place (nat_lt q arena_base) refl
    where
      by_place : (b : Bool) → nat_lt q arena_base ≡ b → owner_at (holder_of t.word) (used_of t.word) q ≡ None
      by_place true e = owner_below (holder_of t.word) (used_of t.word) q e
      by_place false e =
          let u = z (page_at q) 2 in let n : nat_lt (place_at q) (used_of t.word (page_at q)) ≡ false = grind (arith, nat_tests) in
          owner_there (holder_of t.word) (used_of t.word) q e ∙ ap (owned (holder_of t.word (page_at q))) n ∙ owned_nothing (holder_of t.word (page_at q))

  taken_none : (h : ℕ) → taken_by t h ≡ 0
  taken_none zero = taken_heap t ∙ none_marked (owner_of t.word) t.pages (λ p. z p 1)
  taken_none (suc h) = taken_other t (suc h) (omega arith) (dead (suc h))

  last_none : (h : ℕ) → last_of t h ≡ 0
  last_none zero = last_of_heap t 0 refl
  last_none (suc h) = last_of_other t (suc h) (omega arith) (dead (suc h))

  pub fresh_holds : held (new_pool r) ≡ fresh pages
  fresh_holds = λ i. record {
    pages = pages_are i;
    standing = λ h. if dead h i then Some Lexical else None;
    owner = λ q. owner_none q i;
    counts = record {
      fresh = (let p = pages_are in let e : length r.words / 16 - 0 ≡ pages = omega (arith, p) in e) i;
      given = 0;
      taken = λ h. taken_none h i;
      left = λ h. left_of (used_of t.word) (last_none h i);
      class_pages = λ c. 0;
      slots = λ c. 0;
    };
  }

  pub fresh_tags : tag_of (new_pool r) ≡ (λ h. None)
  fresh_tags = λ i h. tag_dead t.word h (dead h) i

  pub fresh_taken : is_taken (new_pool r) ≡ (λ p. false)
  fresh_taken = λ i p. not_taken t.word p (let o = z p 1 in grind (arith, nat_tests)) i

  byte_zero : (q : ℕ) → byte_at (new_pool r) q ≡ 0
  unfolding byte_at
  byte_zero q = let e = zeros.bytes (q - arena_base) in rw e (zero_both (nat_lt q arena_base))

  pub fresh_zeros : byte_at (new_pool r) ≡ (λ q. 0)
  fresh_zeros = λ i q. byte_zero q i
