-- Pages and live slots of each class, when a page is cut, a slot taken or given back.
use Rattle.std.proofs.Common.{◌≡◌, ℕ, zero, ◌+◌, ◌*◌, ◌/◌, ◌<◌, ◌≤◌, Bool, true, false, List, nat_eq, nat_lt, refl, sym, ap, subst, ◌∙◌, arith}
use Rattle.std.specs.Prelude.{slice_index, ◌&&◌, if◌then◌else◌}
use Rattle.std.proofs.lemmas.Bool.Decides.{nat_tests}
use Rattle.arena_laws.specs.Counts.{put, class_of}
use Rattle.unique_blocks.specs.Slots.{Slots, AreSlots, Leads, has_vacancy, is_of_class, one_if, pages_of_class, place_of, slots_of_class, tally, with_cut}
use Rattle.unique_blocks.proofs.Tally.{tally_same, tally_change, tally_short, tally_all}
use Rattle.unique_blocks.proofs.Vacant.{none_lead, class_some}
use Rattle.unique_blocks.proofs.Chained.{live_most}
use Rattle.unique_blocks.proofs.Taken.{page, of_class, short, page_in}

is_class : (s : Slots) (c p : ℕ) → is_of_class s c p ≡ true → s.class p ≡ c
is_class s c p e = by_some (nat_lt 0 c) (nat_eq (s.class p) c) refl refl e
  where
    by_some : (t u : Bool) → nat_lt 0 c ≡ t → nat_eq (s.class p) c ≡ u → (t && u) ≡ true → s.class p ≡ c
    by_some true true d f g = grind (arith, nat_tests)
    by_some true false d f g = absurd (cc)
    by_some false u d f g = absurd (cc)

of_that_class : (s : Slots) (c p : ℕ) → 0 < c → s.class p ≡ c → is_of_class s c p ≡ true
of_that_class s c p l e = let t : nat_lt 0 c ≡ true = grind (arith, nat_tests) in let u : nat_eq (s.class p) c ≡ true = grind (arith, nat_tests) in
    rw (t, u) refl

of_other_class : (s : Slots) (c p : ℕ) → nat_eq (s.class p) c ≡ false → is_of_class s c p ≡ false
of_other_class s c p e = by_some (nat_lt 0 c)
  where
    by_some : (t : Bool) → (t && nat_eq (s.class p) c) ≡ false
    by_some true = e
    by_some false = refl

pub uncut : (s : Slots) (c p : ℕ) → s.class p ≡ 0 → is_of_class s c p ≡ false
uncut s c p e = by_some (nat_lt 0 c) refl
  where
    by_some : (t : Bool) → nat_lt 0 c ≡ t → (t && nat_eq (s.class p) c) ≡ false
    by_some true d = grind (arith, nat_tests)
    by_some false d = refl

module _ (pages : ℕ) (heads : List ℕ) (s : Slots) (sound : AreSlots pages heads s) (c : ℕ) (class : class_of c ≡ c)
    (few : place_of c < 8) where
  some : 0 < c
  some = let i = (class_some c class).some in omega (arith, i)

  most : (p : ℕ) → p < pages → is_of_class s c p ≡ true → s.live p ≤ 4096 / c
  most p l e =
      let of = is_class s c p e in
      subst (λ c. s.live p ≤ 4096 / c) of (live_most pages heads s sound p (let m = some in omega (arith, of, m)))

  -- where the chain has a page, a slot is vacant
  pub spare : 0 < slice_index heads (place_of c) → nat_eq (slots_of_class pages s c) (pages_of_class pages s c * (4096 / c)) ≡ false
  unfolding slots_of_class pages_of_class
  spare b =
      let p = page pages heads s sound c class few b in
      let t = tally_short (is_of_class s c) s.live (4096 / c) pages p most (page_in pages heads s sound c class few b)
      (of_that_class s c p some (of_class pages heads s sound c class few b)) (short pages heads s sound c class few b) in
      grind (arith, nat_tests)

  -- where it has none, all are live
  pub needs : slice_index heads (place_of c) ≡ 0 → nat_eq (slots_of_class pages s c) (pages_of_class pages s c * (4096 / c)) ≡ true
  unfolding slots_of_class pages_of_class
  needs b =
      let t = tally_all (is_of_class s c) s.live (4096 / c) pages (λ p l e. all p l e (nat_lt (s.live p) (4096 / c)) refl) in
      grind (arith, nat_tests)
    where
      all : (p : ℕ) → p < pages → is_of_class s c p ≡ true → (t : Bool) → nat_lt (s.live p) (4096 / c) ≡ t → s.live p ≡ 4096 / c
      all p l e true f =
          let n = none_lead s.next (sound.chain c) (subst (λ h. Leads s.next h (sound.chain c)) b (sound.leads c class)) p in
          let v : has_vacancy s c p ≡ true = (rw (e, f) refl) in
          let o = sound.once c p class ∙ ap one_if v in absurd (omega (arith, n, o))
      all p l e false f = let m = most p l e in grind (arith, nat_tests)

-- ---- the counts after a step

module _ (pages : ℕ) (s : Slots) (p c : ℕ) (within : p < pages) (some : 0 < c) where
  cut_else : (d q : ℕ) → nat_eq q p ≡ false → is_of_class (with_cut p c s) d q ≡ is_of_class s d q
  cut_else d q e = rw e refl

  cut_here : (d : ℕ) → is_of_class (with_cut p c s) d p ≡ nat_eq d c
  cut_here d = by_class (nat_eq d c) refl
    where
      own : nat_eq p p ≡ true
      own = grind (arith, nat_tests)

      by_class : (t : Bool) → nat_eq d c ≡ t → is_of_class (with_cut p c s) d p ≡ t
      by_class true e =
          let d_is : c ≡ d = grind (arith, nat_tests) in
          of_that_class (with_cut p c s) d p (let l = some in omega (arith, l, d_is)) (ap (λ t. if t then c else s.class p) own ∙ d_is)
      by_class false e = of_other_class (with_cut p c s) d p (ap (λ t. nat_eq (if t then c else s.class p) d) own ∙ grind (arith, nat_tests))

  pub cut_pages : s.class p ≡ 0 → (d : ℕ) → pages_of_class pages (with_cut p c s) d ≡ put c (pages_of_class pages s c + 1) (pages_of_class pages s) d
  unfolding pages_of_class
  cut_pages z d =
      let change = tally_change pages (λ q. one_if (is_of_class s d q)) (λ q. one_if (is_of_class (with_cut p c s) d q)) p within (λ q e. ap one_if
      (cut_else d q e)) in
      let was = ap one_if (uncut s d p z) in let now = ap one_if (cut_here d) in
      by_class (nat_eq d c) refl change was now
    where
      by_class : (t : Bool) → nat_eq d c ≡ t →
          tally pages (λ q. one_if (is_of_class (with_cut p c s) d q)) + one_if (is_of_class s d p) ≡ tally pages (λ q. one_if (is_of_class s d q))
          + one_if (is_of_class (with_cut p c s) d p) →
          one_if (is_of_class s d p) ≡ 0 → one_if (is_of_class (with_cut p c s) d p) ≡ one_if (nat_eq d c) →
          tally pages (λ q. one_if (is_of_class (with_cut p c s) d q)) ≡ (if t then tally pages (λ q. one_if (is_of_class s c q)) + 1 else tally pages
          (λ q. one_if (is_of_class s d q)))
      by_class true e ch was now =
          let d_is : d ≡ c = grind (arith, nat_tests) in let one = now ∙ ap one_if e in
          (omega (arith, ch, was, one)) ∙ ap (λ d. tally pages (λ q. one_if (is_of_class s d q)) + 1) d_is
      by_class false e ch was now = let one = now ∙ ap one_if e in omega (arith, ch, was, one)

  pub cut_slots : s.class p ≡ 0 → (d : ℕ) → slots_of_class pages (with_cut p c s) d ≡ slots_of_class pages s d
  unfolding slots_of_class
  cut_slots z d = tally_same pages (λ q. if is_of_class (with_cut p c s) d q then (with_cut p c s).live q else 0)
      (λ q. if is_of_class s d q then s.live q else 0)
      (λ q l. by_page q (nat_eq q p) refl)
    where
      no_live : (t : Bool) → (if t then zero else zero) ≡ zero
      no_live true = refl
      no_live false = refl

      by_page : (q : ℕ) (t : Bool) → nat_eq q p ≡ t → (if is_of_class (with_cut p c s) d q then (with_cut p c s).live q else 0) ≡ (if is_of_class s d q then
          s.live q else 0)
      by_page q true e =
          let q_is : p ≡ q = grind (arith, nat_tests) in
          ap (λ t. if is_of_class (with_cut p c s) d q then (if t then 0 else s.live q) else 0) e ∙ no_live (is_of_class (with_cut p c s) d q)
          ∙ sym (ap (λ t. if t then s.live q else 0) (uncut s d q (subst (λ q. s.class q ≡ 0) q_is z)))
      by_page q false e = rw e refl

-- a page's live slots differ
module _ (pages : ℕ) (s : Slots) (p c n : ℕ) (within : p < pages) (some : 0 < c) (of : s.class p ≡ c) (bit : ℕ → ℕ → Bool) where
  abbrev now : Slots
  now = record s { live = put p n s.live; bit = bit }

  pub live_slots : (d : ℕ) → nat_eq d c ≡ true → slots_of_class pages now d + s.live p ≡ slots_of_class pages s d + n
  unfolding slots_of_class
  live_slots d e =
      let d_is : c ≡ d = grind (arith, nat_tests) in
      let own : nat_eq p p ≡ true = grind (arith, nat_tests) in
      let here : is_of_class s d p ≡ true = of_that_class s d p (let l = some in omega (arith, l, d_is)) (of ∙ d_is) in
      let change = tally_change pages (λ q. if is_of_class s d q then s.live q else 0) (λ q. if is_of_class s d q then now.live q else 0) p within
      (λ q m. rw m refl) in
      let was : (if is_of_class s d p then s.live p else 0) ≡ s.live p = (rw here refl) in
      let is : (if is_of_class s d p then now.live p else 0) ≡ n = (rw (here, own) refl) in
      omega (arith, change, was, is)

  pub live_else : (d : ℕ) → nat_eq d c ≡ false → slots_of_class pages now d ≡ slots_of_class pages s d
  unfolding slots_of_class
  live_else d e = tally_same pages (λ q. if is_of_class s d q then now.live q else 0) (λ q. if is_of_class s d q then s.live q else 0)
      (λ q l. by_page q (nat_eq q p) refl)
    where
      by_page : (q : ℕ) (t : Bool) → nat_eq q p ≡ t → (if is_of_class s d q then now.live q else 0) ≡ (if is_of_class s d q then s.live q else 0)
      by_page q true m =
          let q_is : p ≡ q = grind (arith, nat_tests) in
          let other : is_of_class s d q ≡ false = of_other_class s d q (let o = subst (λ q. s.class q ≡ c) q_is of in grind (arith, nat_tests)) in
          rw other refl
      by_page q false m = rw m refl

  pub same_pages : (d : ℕ) → pages_of_class pages now d ≡ pages_of_class pages s d
  unfolding pages_of_class
  same_pages d = refl

-- the links aren't counted
pub links_slots : (pages : ℕ) (s : Slots) (next : ℕ → ℕ) (d : ℕ) → slots_of_class pages (record s { next = next }) d ≡ slots_of_class pages s d
unfolding slots_of_class
links_slots pages s next d = refl

pub links_pages : (pages : ℕ) (s : Slots) (next : ℕ → ℕ) (d : ℕ) → pages_of_class pages (record s { next = next }) d ≡ pages_of_class pages s d
unfolding pages_of_class
links_pages pages s next d = refl
