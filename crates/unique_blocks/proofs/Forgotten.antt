-- A pool whose pages have no class.
use Rattle.std.proofs.Common.{◌≡◌, ℕ, ◌+◌, ◌<◌, ◌≤◌, Bool, true, false, List, [], ◌∷◌, Option, Some, None, nat_eq, nat_lt, refl, sym, ap, subst, ◌∙◌, arith}
use Rattle.std.specs.Prelude.{slice_index, if◌then◌else◌}
use Rattle.std.proofs.lemmas.Bool.Decides.{nat_tests}
use Rattle.arena_laws.specs.declared.owner.Owner.{Owner}
use Rattle.arena_laws.specs.Counts.{class_of}
use Rattle.arena_laws.specs.Holdings.{arena_base}
use Rattle.region_runtime.specs.Calls.{words_set}
use Rattle.region_runtime.specs.Pool.{Pooled, is_taken, page_at, word_by, word_of}
use Rattle.region_runtime.specs.Pool as pool
use Rattle.unique_blocks.specs.Slots.{AreSlots, Leads, alone_at, is_of_class, one_if, pages_of_class, place_of, slots_of_class}
use Rattle.unique_blocks.specs.Blocks.{either_owner, joined}
use Rattle.unique_blocks.specs.Calls.{slots_of}
use Rattle.unique_blocks.proofs.Classes.{by_place}
use Rattle.unique_blocks.proofs.Counted.{uncut}
use Rattle.unique_blocks.proofs.Places.{alone_below, alone_uncut}
use Rattle.unique_blocks.proofs.Steps.{class_page, untaken_class}
use Rattle.unique_blocks.proofs.Tally.{tally_none}
use Rattle.unique_blocks.proofs.Vacant.{class_some, times_none, vacant_else}

-- a page more has no class
pub forgotten : (old new : Pooled) (p : ℕ) → word_of new ≡ words_set old p 4 0 → ((q : ℕ) → q < p → word_of old q 4 ≡ 0) → (q : ℕ) → q < p + 1 →
    word_of new q 4 ≡ 0
forgotten old new p e none q l = ap (λ w. w q 4) e ∙ by_taken (is_taken old p) (nat_eq q p) refl refl
  where
    by_taken : (t u : Bool) → is_taken old p ≡ t → nat_eq q p ≡ u → words_set old p 4 0 q 4 ≡ 0
    by_taken true true d f = rw (d, f) refl
    by_taken true false d f = rw (d, f) (none q (grind (arith, nat_tests)))
    by_taken false true d f =
        let p_is : p ≡ q = grind (arith, nat_tests) in rw d (untaken_class old q (subst (λ p. is_taken old p ≡ false) p_is d))
    by_taken false false d f = rw d (none q (grind (arith, nat_tests)))

pub no_class : (p : Pooled) (n : ℕ) → (pool.held p).pages ≤ n → ((q : ℕ) → q < n → word_of p q 4 ≡ 0) → (q : ℕ) → word_of p q 4 ≡ 0
no_class p n l none q = by_zero (nat_eq (word_of p q 4) 0) refl
  where
    by_zero : (t : Bool) → nat_eq (word_of p q 4) 0 ≡ t → word_of p q 4 ≡ 0
    by_zero true e = grind (arith, nat_tests)
    by_zero false e = let i = class_page p q (grind (arith, nat_tests)) in none q (omega (arith, i, l))

abbrev pub no_heads : List ℕ
no_heads = 0 ∷ 0 ∷ 0 ∷ 0 ∷ 0 ∷ 0 ∷ 0 ∷ 0 ∷ []

module _ (p : Pooled) (none : (q : ℕ) → word_of p q 4 ≡ 0) where
  begins : (c : ℕ) → class_of c ≡ c → Leads (slots_of p).next (slice_index no_heads (place_of c)) []
  begins c e = by_place (λ c i. slice_index no_heads i ≡ 0) c refl refl refl refl refl refl refl refl

  pub none_sound : (pool.held p).pages ≤ 4096 → AreSlots (pool.held p).pages no_heads (slots_of p)
  none_sound f = record {
    long = refl;
    pages_few = f;
    classes = λ q l. absurd (let z = none q in omega (arith, z, l));
    within = λ q l. absurd (let z = none q in omega (arith, z, l));
    counted = λ q l. absurd (let z = none q in omega (arith, z, l));
    chain = λ c. [];
    leads = begins;
    once = λ c q e. times_none q ∙ sym (ap one_if (vacant_else (slots_of p) c q (let z = none q in let i = (class_some c e).some in
        grind (arith, nat_tests))));
  }

  no_alone : (q : ℕ) → alone_at (slots_of p) q ≡ None
  no_alone q = by_base (nat_lt q arena_base) refl
    where
      by_base : (t : Bool) → nat_lt q arena_base ≡ t → alone_at (slots_of p) q ≡ None
      by_base true b = alone_below (slots_of p) q b
      by_base false b = alone_uncut (slots_of p) q b (none (page_at q))

  either_none : (o : Option Owner) → either_owner o None ≡ o
  either_none None = refl
  either_none (Some x) = refl

  no_pages : (c : ℕ) → pages_of_class (pool.held p).pages (slots_of p) c ≡ 0
  unfolding pages_of_class
  no_pages c = tally_none (pool.held p).pages (λ q. one_if (is_of_class (slots_of p) c q)) (λ q l. ap one_if (uncut
      (slots_of p) c q (none q)))

  no_slots : (c : ℕ) → slots_of_class (pool.held p).pages (slots_of p) c ≡ 0
  unfolding slots_of_class
  no_slots c = tally_none (pool.held p).pages (λ q. if is_of_class (slots_of p) c q then (slots_of p).live q else 0)
      (λ q l. ap (λ t. if t then (slots_of p).live q else 0) (uncut (slots_of p) c q (none q)))

  pub none_held : joined (slots_of p) (pool.held p) ≡ pool.held p
  none_held = λ i. record (pool.held p) {
    owner = λ q. (ap (either_owner ((pool.held p).owner q)) (no_alone q) ∙ either_none ((pool.held p).owner q)) i;
    counts = record ((pool.held p).counts) { class_pages = λ c. no_pages c i; slots = λ c. no_slots c i };
  }
