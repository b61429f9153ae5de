-- A page is cut for a class with no vacant slot.
use Rattle.std.proofs.Common.{
  ◌≡◌,
  ℕ,
  suc,
  ◌+◌,
  ◌/◌,
  ◌<◌,
  ◌≤◌,
  Bool,
  true,
  false,
  List,
  [],
  ◌∷◌,
  length,
  nat_eq,
  nat_lt,
  refl,
  sym,
  ap,
  subst,
  ◌∙◌,
  arith,
  length-set,
}
use Rattle.std.specs.Prelude.{slice_index, slice_set, if◌then◌else◌}
use Rattle.std.proofs.lemmas.Bool.Decides.{nat_tests}
use Rattle.arena_laws.specs.Counts.{class_of}
use Rattle.region_runtime.specs.Chains.{times}
use Rattle.unique_blocks.specs.Slots.{Slots, AreSlots, Leads, has_vacancy, one_if, place_of, tally, with_cut}
use Rattle.unique_blocks.proofs.Tally.{tally_least, tally_none}
use Rattle.unique_blocks.proofs.Classes.{place_own}
use Rattle.region_runtime.proofs.Words.{index_at, index_else}
use Rattle.unique_blocks.proofs.Vacant.{
  leads_kept,
  none_lead,
  times_here,
  times_else,
  times_none,
  class_some,
  slots_some,
  vacant_else,
  vacant_here,
}

module _ (pages : ℕ) (heads : List ℕ) (s : Slots) (sound : AreSlots pages heads s) where
  -- no more slots are live than a page has
  pub live_most : (p : ℕ) → 0 < s.class p → s.live p ≤ 4096 / s.class p
  live_most p l = let e = sound.counted p l in let t = tally_least (4096 / s.class p) (s.bit p) in omega (arith, e, t)

  pub place_in : (c : ℕ) → place_of c < 8 → place_of c < length heads
  place_in c l = let e = sound.long in omega (arith, e, l)

  -- ---- a page is cut for a class with no vacant slot
  module _ (c p : ℕ) (class : class_of c ≡ c) (few : place_of c < 8) (within : p < pages) (fresh : s.class p ≡ 0)
      (empty : slice_index heads (place_of c) ≡ 0) where
    some : 0 < c
    some = let i = (class_some c class).some in omega (arith, i)

    abbrev cut : Slots
    cut = with_cut p c s

    abbrev cut_heads : List ℕ
    cut_heads = slice_set heads (place_of c) (p + 1)

    cut_chain_by : Bool → ℕ → List ℕ
    cut_chain_by true d = p ∷ []
    cut_chain_by false d = sound.chain d

    none_of : (q : ℕ) → times q (sound.chain c) ≡ 0
    none_of q = none_lead s.next (sound.chain c) (subst (λ h. Leads s.next h (sound.chain c)) empty (sound.leads c class)) q

    off : (d : ℕ) → class_of d ≡ d → times p (sound.chain d) ≡ 0
    off d e =
        sound.once d p e ∙ ap one_if (vacant_else s d p (let i = (class_some d e).some in grind (arith, nat_tests)))

    cut_leads : (t : Bool) (d : ℕ) → class_of d ≡ d → nat_eq d c ≡ t → Leads cut.next (slice_index cut_heads (place_of d)) (cut_chain_by t d)
    unfolding cut_chain_by
    cut_leads true d e n =
        let same : nat_eq (place_of d) (place_of c) ≡ true = (let d_is : d ≡ c = grind (arith, nat_tests) in let z = ap place_of d_is in
        grind (arith, nat_tests)) in
        let own : nat_eq p p ≡ true = grind (arith, nat_tests) in
        (index_at heads (place_of c) (p + 1) (place_of d) (place_in c few) same, ap (λ t. if t then 0 else s.next p) own)
    cut_leads false d e n =
        let apart : nat_eq (place_of d) (place_of c) ≡ false = differs (nat_eq (place_of d) (place_of c)) refl in
        subst (λ h. Leads cut.next h (sound.chain d)) (sym (index_else heads (place_of c) (p + 1) (place_of d) apart))
        (leads_kept s.next p 0 (slice_index heads (place_of d)) (sound.chain d) (off d e) (sound.leads d e))
      where
        differs : (t : Bool) → nat_eq (place_of d) (place_of c) ≡ t → t ≡ false
        differs true f = absurd (let o = place_own c d class e (grind (arith, nat_tests)) in grind (arith, nat_tests))
        differs false f = refl

    cut_once : (t u : Bool) (d q : ℕ) → class_of d ≡ d → nat_eq d c ≡ t → nat_eq q p ≡ u → times q (cut_chain_by t d) ≡ one_if (has_vacancy cut d q)
    unfolding cut_chain_by
    cut_once true true d q e n m =
        let here : nat_eq (cut.class q) d ≡ true = (rw m (grind (arith, nat_tests))) in
        let none : cut.live q ≡ 0 = ap (λ t. if t then 0 else s.live q) m in
        let vacant : nat_lt (cut.live q) (4096 / d) ≡ true = (let l = slots_some d e in rw m (grind (arith, nat_tests))) in
        times_here p q [] m ∙ ap suc (times_none q)
        ∙ sym (ap one_if (vacant_here cut d q (let i = (class_some d e).some in omega (arith, i)) here ∙ vacant))
    cut_once true false d q e n m =
        let d_is : d ≡ c = grind (arith, nat_tests) in
        times_else p q [] m ∙ times_none q
        ∙ sym (none_of q) ∙ sound.once c q class ∙ ap (λ d. one_if (has_vacancy s d q)) (sym d_is) ∙ sym (ap one_if (same_else d q m))
      where
        same_else : (d q : ℕ) → nat_eq q p ≡ false → has_vacancy cut d q ≡ has_vacancy s d q
        same_else d q m = rw m refl
    cut_once false true d q e n m =
        let q_is : p ≡ q = grind (arith, nat_tests) in
        subst (λ q. times q (sound.chain d) ≡ 0) q_is (off d e)
        ∙ sym (ap one_if (vacant_else cut d q (rw m (grind (arith, nat_tests)))))
    cut_once false false d q e n m = sound.once d q e ∙ sym (ap one_if (same_else d q m))
      where
        same_else : (d q : ℕ) → nat_eq q p ≡ false → has_vacancy cut d q ≡ has_vacancy s d q
        same_else d q m = rw m refl

    by_page : (q : ℕ) (P : ℕ → (ℕ → Bool) → ℕ → Type 0) → P c (λ k. false) 0 → P (s.class q) (s.bit q) (s.live q) →
        P (cut.class q) (cut.bit q) (cut.live q)
    by_page q P x y = by (nat_eq q p)
      where
        by : (t : Bool) → P (if t then c else s.class q) (λ k. if t then false else s.bit q k) (if t then 0 else s.live q)
        by true = x
        by false = y

    pub cut_sound : AreSlots pages cut_heads cut
    cut_sound = record {
      long = length-set heads (place_of c) (p + 1) ∙ sound.long;
      pages_few = sound.pages_few;
      classes = λ q. by_page q (λ k b n. 0 < k → class_of k ≡ k) (λ l. class) (sound.classes q);
      within = λ q l. by_within q (nat_eq q p) refl l;
      counted = λ q. by_page q (λ k b n. 0 < k → n ≡ tally (4096 / k) (λ j. one_if (b j))) (λ l. sym (tally_none (4096 / c) (λ j. 0)
          (λ j m. refl))) (sound.counted q);
      chain = λ d. cut_chain_by (nat_eq d c) d;
      leads = λ d e. cut_leads (nat_eq d c) d e refl;
      once = λ d q e. cut_once (nat_eq d c) (nat_eq q p) d q e refl refl;
    }
      where
        by_within : (q : ℕ) (t : Bool) → nat_eq q p ≡ t → 0 < cut.class q → q < pages
        by_within q true e l = let i = within in grind (arith, nat_tests)
        by_within q false e l = sound.within q (subst (λ n. 0 < n) (ap (λ t. if t then c else s.class q) e) l)
