-- Who holds each page, after each step.
use Rattle.std.proofs.Common.{
  ◌≡◌,
  ℕ,
  ◌+◌,
  ◌-◌,
  ◌<◌,
  ◌≤◌,
  Bool,
  true,
  false,
  Option,
  Some,
  None,
  List,
  [],
  ◌∷◌,
  nat_eq,
  nat_lt,
  refl,
  sym,
  ap,
  subst,
  ◌∙◌,
  arith,
}
use Rattle.std.specs.Prelude.{if◌then◌else◌, ◌&&◌}
use Rattle.std.proofs.lemmas.Bool.Decides.{nat_tests}
use Rattle.arena_laws.specs.Counts.{put}
use Rattle.region_runtime.specs.Chains.{times}
use Rattle.region_runtime.specs.Headers.{heap_mark, taken_mark, is_live_number, holder_by}
use Rattle.region_runtime.specs.Sound.{AreChains, no_page}
use Rattle.region_runtime.proofs.Words.{live_some, live_none}
use Rattle.region_runtime.proofs.Chains.{times_none, times_more}
use Rattle.region_runtime.proofs.Places.{
  page_in_hand,
  uses_marked,
  live_same,
  live_small,
  hand_unused,
  hand_not_own,
  hand_off,
  grown_live,
  times_grown,
  started_live,
}
use Rattle.region_runtime.proofs.Freeing.{live_other, dead_now, other_page}

pub holder_heap : (owner : ℕ → ℕ) (chain : ℕ → List ℕ) (p : ℕ) → owner p ≡ heap_mark → holder_by owner chain p ≡ Some 0
unfolding holder_by
holder_heap owner chain p e = let n : nat_eq (owner p) heap_mark ≡ true = grind (arith, nat_tests) in rw n refl

pub holder_taken : (owner : ℕ → ℕ) (chain : ℕ → List ℕ) (p : ℕ) → owner p ≡ taken_mark → holder_by owner chain p ≡ None
unfolding holder_by
holder_taken owner chain p e =
    let n : nat_eq (owner p) heap_mark ≡ false = grind (arith, nat_tests) in let m : nat_eq (owner p) taken_mark ≡ true = grind (arith, nat_tests) in
    rw (n, m) refl

-- of an unmarked page it is what its owner says, where that is live and has it on its chain
pub holder_unmarked : (owner : ℕ → ℕ) (chain : ℕ → List ℕ) (p : ℕ) → owner p ≤ 4096 →
    holder_by owner chain p ≡ (if is_live_number owner (owner p) && nat_lt 0 (times p (chain (owner p))) then Some (owner p) else None)
unfolding holder_by
holder_unmarked owner chain p l =
    let n : nat_eq (owner p) heap_mark ≡ false = grind (arith, nat_tests) in let m : nat_eq (owner p) taken_mark ≡ false = grind (arith, nat_tests) in
    rw (n, m) refl

pub holder_live : (owner : ℕ → ℕ) (chain : ℕ → List ℕ) (p h : ℕ) → owner p ≡ h → h ≤ 4096 → is_live_number owner h ≡ true → 0 < times p (chain h) →
    holder_by owner chain p ≡ Some h
holder_live owner chain p h e l d t =
    let n : is_live_number owner (owner p) ≡ true = ap (is_live_number owner) e ∙ d in
    let m : nat_lt 0 (times p (chain (owner p))) ≡ true = (let k = subst (λ g. 0 < times p (chain g)) (sym e) t in grind (arith, nat_tests)) in
    holder_unmarked owner chain p (omega (arith, e, l)) ∙ (rw (n, m) refl) ∙ ap Some e

pub holder_dead : (owner : ℕ → ℕ) (chain : ℕ → List ℕ) (p : ℕ) → owner p ≤ 4096 → is_live_number owner (owner p) ≡ false → holder_by owner chain p ≡ None
holder_dead owner chain p l d = holder_unmarked owner chain p l ∙ (rw d refl)

pub holder_off : (owner : ℕ → ℕ) (chain : ℕ → List ℕ) (p : ℕ) → owner p ≤ 4096 → times p (chain (owner p)) ≡ 0 → holder_by owner chain p ≡ None
holder_off owner chain p l t =
    let m : nat_lt 0 (times p (chain (owner p))) ≡ false = grind (arith, nat_tests) in
    holder_unmarked owner chain p l ∙ (rw m (none (is_live_number owner (owner p))))
  where
    none : (b : Bool) → (if b && false then Some (owner p) else None) ≡ None
    none true = refl
    none false = refl

kept_by : (owner held : ℕ → ℕ) (chain chains : ℕ → List ℕ) (q : ℕ) (l : Bool) → held q ≡ owner q → is_live_number owner (owner q) ≡ l →
    is_live_number held (owner q) ≡ l → (l ≡ true → times q (chains (owner q)) ≡ times q (chain (owner q))) →
    holder_by held chains q ≡ holder_by owner chain q
unfolding holder_by
kept_by owner held chain chains q true e d n t =
    let k = t refl in rw (e, d, n, k) refl
kept_by owner held chain chains q false e d n t = rw (e, d, n) refl

-- the holder is the same where the owner, and the place on its chain, are
pub holder_kept : (owner held : ℕ → ℕ) (chain chains : ℕ → List ℕ) (q : ℕ) → held q ≡ owner q →
    is_live_number held (owner q) ≡ is_live_number owner (owner q) →
    (is_live_number owner (owner q) ≡ true → times q (chains (owner q)) ≡ times q (chain (owner q))) → holder_by held chains q ≡ holder_by owner chain q
holder_kept owner held chain chains q e n t = kept_by owner held chain chains q (is_live_number owner (owner q)) e refl n t

module _ (free : List ℕ) (owner : ℕ → ℕ) (chain : ℕ → List ℕ) (ever_used : ℕ) (p : ℕ) (few : ever_used ≤ 4096)
    (a : AreChains free owner chain ever_used (page_in_hand p)) where
  unmarked : owner p ≤ 4096
  unmarked = by_mark (nat_lt 4096 (owner p)) refl
    where
      by_mark : (b : Bool) → nat_lt 4096 (owner p) ≡ b → owner p ≤ 4096
      by_mark false e = grind (arith, nat_tests)
      by_mark true e =
          let u = uses_marked owner chain p (grind (arith, nat_tests)) in let z = hand_unused free owner chain ever_used p few a in absurd (omega (arith, u, z))

  -- nobody holds a page in hand
  pub hand_nobody : holder_by owner chain p ≡ None
  hand_nobody = by_live (is_live_number owner (owner p)) refl
    where
      by_live : (b : Bool) → is_live_number owner (owner p) ≡ b → holder_by owner chain p ≡ None
      by_live false e = holder_dead owner chain p unmarked e
      by_live true e = holder_off owner chain p unmarked (hand_off free owner chain ever_used p few a (owner p) e)

  pub hand_unmarked : owner p ≤ 4096
  hand_unmarked = unmarked

  -- a page that is marked
  pub marked_others : (w : ℕ) (chains : ℕ → List ℕ) → 4096 < w → p < 4096 → ((g : ℕ) → is_live_number owner g ≡ true → chains g ≡ chain g) → (q : ℕ) →
      nat_eq q p ≡ false → holder_by (put p w owner) chains q ≡ holder_by owner chain q
  marked_others w chains m s c q e =
      holder_kept owner (put p w owner) chain chains q (rw e refl) (live_same free owner chain ever_used p few a w (grind (arith, nat_tests)) (owner q))
      (λ d. ap (times q) (c (owner q) d))

  module _ (h : ℕ) (chains : ℕ → List ℕ) (live : is_live_number owner h ≡ true) (grown : chains h ≡ p ∷ chain h)
      (others : (g : ℕ) → nat_eq g h ≡ false → is_live_number owner g ≡ true → chains g ≡ chain g) where
    pub grown_holder : (q : ℕ) → holder_by (put p h owner) chains q ≡ put p (Some h) (holder_by owner chain) q
    grown_holder q = by_page (nat_eq q p) refl
      where
        by_page : (b : Bool) → nat_eq q p ≡ b → holder_by (put p h owner) chains q ≡ (if b then Some h else holder_by owner chain q)
        by_page true e =
            let is : put p h owner q ≡ h = rw e refl in
            let t : times q (chains h) ≡ times q (p ∷ chain h) = ap (times q) grown in let m = times_more q p (chain h) in
            holder_live (put p h owner) chains q h is (live_small free owner chain ever_used (page_in_hand p) few a h live)
            (grown_live free owner chain ever_used p few a h chains live grown others h ∙ live) (grind (arith, nat_tests))
        by_page false e =
            holder_kept owner (put p h owner) chain chains q (rw e refl) (grown_live free owner chain ever_used p few a h chains live grown others (owner q))
            (λ d. times_grown free owner chain ever_used p few a h chains live grown others (owner q) q e d)

  module _ (chains : ℕ → List ℕ) (small : p < 4096) (started : chains (p + 1) ≡ p ∷ [])
      (others : (g : ℕ) → nat_eq g (p + 1) ≡ false → is_live_number owner g ≡ true → chains g ≡ chain g) where
    pub started_holder : (q : ℕ) → holder_by (put p (p + 1) owner) chains q ≡ put p (Some (p + 1)) (holder_by owner chain) q
    started_holder q = by_page (nat_eq q p) refl
      where
        live_here : is_live_number (put p (p + 1) owner) (p + 1) ≡ true
        live_here = started_live free owner chain ever_used p few a chains small started others (p + 1) ∙
            (let r : nat_eq (p + 1) (p + 1) ≡ true = grind (arith, nat_tests) in rw r refl)

        by_page : (b : Bool) → nat_eq q p ≡ b → holder_by (put p (p + 1) owner) chains q ≡ (if b then Some (p + 1) else holder_by owner chain q)
        by_page true e =
            let is : put p (p + 1) owner q ≡ p + 1 = rw e refl in
            let t : times q (chains (p + 1)) ≡ times q (p ∷ []) = ap (times q) started in let m = times_more q p [] in
            holder_live (put p (p + 1) owner) chains q (p + 1) is (omega (arith, small)) live_here (grind (arith, nat_tests))
        by_page false e = stale (nat_eq (owner q) (p + 1)) refl
          where
            is : put p (p + 1) owner q ≡ owner q
            is = rw e refl

            stale : (c : Bool) → nat_eq (owner q) (p + 1) ≡ c → holder_by (put p (p + 1) owner) chains q ≡ holder_by owner chain q
            stale false f =
                holder_kept owner (put p (p + 1) owner) chain chains q is
                (started_live free owner chain ever_used p few a chains small started others (owner q) ∙ (rw f refl))
                (λ d. ap (times q) (others (owner q) f d))
            stale true f =
                let same : owner q ≡ p + 1 = grind (arith, nat_tests) in
                let now : put p (p + 1) owner q ≡ p + 1 = is ∙ same in
                let t : times q (chains (put p (p + 1) owner q)) ≡ times q (p ∷ []) = ap (λ k. times q (chains k)) now ∙ ap (times q) started in
                let m = times_more q p [] in let z = times_none q in
                holder_off (put p (p + 1) owner) chains q (omega (arith, now, small)) (grind (arith, nat_tests))
                ∙ sym (holder_dead owner chain q (omega (arith, same, small)) (ap (is_live_number owner) same ∙ hand_not_own free owner chain
                ever_used p few a))

-- a region's pages are held no more
abbrev pub without_holder : ℕ → Option ℕ → Option ℕ
without_holder h None = None
without_holder h (Some g) = (if nat_eq g h then None else Some g)

module _ (free : List ℕ) (owner : ℕ → ℕ) (chain : ℕ → List ℕ) (ever_used : ℕ) (few : ever_used ≤ 4096) (a : AreChains free owner chain ever_used no_page)
    (h : ℕ) (live : is_live_number owner h ≡ true) (chains : ℕ → List ℕ)
    (others : (g : ℕ) → nat_eq g h ≡ false → is_live_number owner g ≡ true → chains g ≡ chain g) where
  small : h ≤ 4096
  small = live_small free owner chain ever_used no_page few a h live

  nobody_now : (q : ℕ) → nat_eq (owner q) h ≡ true → holder_by (put (h - 1) 0 owner) chains q ≡ None
  nobody_now q e = by_page (nat_eq q (h - 1)) refl
    where
      by_page : (b : Bool) → nat_eq q (h - 1) ≡ b → holder_by (put (h - 1) 0 owner) chains q ≡ None
      by_page true d =
          let is : put (h - 1) 0 owner q ≡ 0 = rw d refl in
          holder_dead (put (h - 1) 0 owner) chains q (omega (arith, is)) (ap (is_live_number (put (h - 1) 0 owner)) is ∙ live_none (put (h - 1) 0 owner))
      by_page false d =
          let is : put (h - 1) 0 owner q ≡ owner q = rw d refl in let same : owner q ≡ h = grind (arith, nat_tests) in
          let l = small in
          holder_dead (put (h - 1) 0 owner) chains q (omega (arith, is, same, l)) (ap (is_live_number (put (h - 1) 0 owner)) (is ∙ same) ∙ dead_now
          free owner chain ever_used few a h live chains others)

  was_its : (q : ℕ) → nat_eq (owner q) h ≡ true → without_holder h (holder_by owner chain q) ≡ None
  was_its q e =
      let same : owner q ≡ h = grind (arith, nat_tests) in let l = small in
      ap (without_holder h) (holder_unmarked owner chain q (omega (arith, same, l)))
      ∙ by_test (is_live_number owner (owner q) && nat_lt 0 (times q (chain (owner q))))
    where
      by_test : (b : Bool) → without_holder h (if b then Some (owner q) else None) ≡ None
      by_test true = rw e refl
      by_test false = refl

  was_not : (q : ℕ) → nat_eq (owner q) h ≡ false → without_holder h (holder_by owner chain q) ≡ holder_by owner chain q
  unfolding holder_by
  was_not q e = by_tests (nat_eq (owner q) heap_mark) (nat_eq (owner q) taken_mark) (is_live_number owner (owner q) && nat_lt 0 (times q (chain (owner q))))
    where
      by_tests : (b c d : Bool) → without_holder h (if b then Some 0 else if c then None else if d then Some (owner q) else None)
          ≡ (if b then Some 0 else if c then None else if d then Some (owner q) else None)
      by_tests true c d = let s = live_some owner h live in let n : nat_eq 0 h ≡ false = grind (arith, nat_tests) in rw n refl
      by_tests false true d = refl
      by_tests false false true = rw e refl
      by_tests false false false = refl

  pub freed_holder : (q : ℕ) → holder_by (put (h - 1) 0 owner) chains q ≡ without_holder h (holder_by owner chain q)
  freed_holder q = by_owner (nat_eq (owner q) h) refl
    where
      by_owner : (b : Bool) → nat_eq (owner q) h ≡ b → holder_by (put (h - 1) 0 owner) chains q ≡ without_holder h (holder_by owner chain q)
      by_owner true e = nobody_now q e ∙ sym (was_its q e)
      by_owner false e =
          holder_kept owner (put (h - 1) 0 owner) chain chains q (other_page free owner chain ever_used few a h live chains others q e)
          (live_other free owner chain ever_used few a h live chains others (owner q) e) (λ d. ap (times q) (others (owner q) e d))
          ∙ sym (was_not q e)
