-- Each page keeps one place while pages are taken, put on chains and marked.
use Rattle.std.proofs.Common.{◌≡◌, ℕ, ◌+◌, ◌-◌, ◌<◌, ◌≤◌, Bool, true, false, List, [], ◌∷◌, nat_eq, nat_lt, refl, sym, ap, subst, ◌∙◌, arith}
use Rattle.std.specs.Prelude.{if◌then◌else◌, ◌&&◌}
use Rattle.std.proofs.lemmas.Bool.Decides.{nat_tests}
use Rattle.arena_laws.specs.Counts.{put}
use Rattle.region_runtime.specs.Chains.{times, last_or}
use Rattle.region_runtime.specs.Headers.{is_live_number}
use Rattle.region_runtime.specs.Sound.{AreChains, uses, no_page}
use Rattle.region_runtime.proofs.Words.{live_some, live_own, live_none}
use Rattle.region_runtime.proofs.Chains.{times_none, times_more, times_last, last_more, last_one}

-- a page in hand
abbrev pub page_in_hand : ℕ → ℕ → ℕ
page_in_hand p q = (if nat_eq q p then 1 else 0)

pub uses_marked : (owner : ℕ → ℕ) (chain : ℕ → List ℕ) (p : ℕ) → 4096 < owner p → uses owner chain p ≡ 1
unfolding uses
uses_marked owner chain p l = grind (arith, nat_tests)

pub uses_live : (owner : ℕ → ℕ) (chain : ℕ → List ℕ) (p : ℕ) → owner p ≤ 4096 → is_live_number owner (owner p) ≡ true →
    uses owner chain p ≡ times p (chain (owner p))
unfolding uses
uses_live owner chain p l e = grind (arith, nat_tests)

pub uses_dead : (owner : ℕ → ℕ) (chain : ℕ → List ℕ) (p : ℕ) → owner p ≤ 4096 → is_live_number owner (owner p) ≡ false → uses owner chain p ≡ 0
unfolding uses
uses_dead owner chain p l e = grind (arith, nat_tests)

-- ---- what follows from the places

module _ (free : List ℕ) (owner : ℕ → ℕ) (chain : ℕ → List ℕ) (ever_used : ℕ) (in_hand : ℕ → ℕ) (few : ever_used ≤ 4096)
    (a : AreChains free owner chain ever_used in_hand) where
  -- the first page of a live region is on its chain
  pub first_there : (h : ℕ) → is_live_number owner h ≡ true → 0 < times (h - 1) (chain h)
  first_there h e = let s = live_some owner h e in times_last h (h - 1) (chain h) (a.first h e) (grind (arith, nat_tests))

  -- a page with a mark was used
  pub marked_used : (p : ℕ) → 4096 < owner p → p < ever_used
  marked_used p l = let u = uses_marked owner chain p l in let o = a.once p in grind (arith, nat_tests)

  -- a live number isn't a mark
  pub live_small : (h : ℕ) → is_live_number owner h ≡ true → h ≤ 4096
  live_small h e = by_size (nat_lt 4096 h) refl
    where
      by_size : (b : Bool) → nat_lt 4096 h ≡ b → h ≤ 4096
      by_size false l = grind (arith, nat_tests)
      by_size true l =
          let own = live_own owner h e in
          let u = uses_marked owner chain (h - 1) (grind (arith, nat_tests)) in
          let o = a.once (h - 1) in
          absurd (grind (arith, nat_tests))

  -- a page on a live region's chain is in use as often
  pub uses_there : (h p : ℕ) → is_live_number owner h ≡ true → 0 < times p (chain h) → uses owner chain p ≡ times p (chain h)
  uses_there h p e l =
      let n = a.named h p e l in let s = live_small h e in
      let live : is_live_number owner (owner p) ≡ true = ap (is_live_number owner) n ∙ e in
      uses_live owner chain p (omega (arith, n, s)) live ∙ ap (λ k. times p (chain k)) n

  -- a page with another place is on no live region's chain
  pub off_chain : (h p : ℕ) → is_live_number owner h ≡ true → uses owner chain p ≡ 0 → times p (chain h) ≡ 0
  off_chain h p e z = by_times (nat_lt 0 (times p (chain h))) refl
    where
      by_times : (b : Bool) → nat_lt 0 (times p (chain h)) ≡ b → times p (chain h) ≡ 0
      by_times false l = grind (arith, nat_tests)
      by_times true l = let u = uses_there h p e (grind (arith, nat_tests)) in absurd (grind (arith, nat_tests))

  -- a page that is its own region's first is in use
  pub own_in_use : (p : ℕ) → uses owner chain p ≡ 0 → is_live_number owner (p + 1) ≡ false
  own_in_use p z = by_live (is_live_number owner (p + 1)) refl
    where
      by_live : (b : Bool) → is_live_number owner (p + 1) ≡ b → is_live_number owner (p + 1) ≡ false
      by_live false e = e
      by_live true e =
          let same : p + 1 - 1 ≡ p = omega arith in
          let t = subst (λ k. 0 < times k (chain (p + 1))) same (first_there (p + 1) e) in
          let o = off_chain (p + 1) p e z in absurd (omega (arith, t, o))

-- ---- a page is taken in hand

module _ (owner : ℕ → ℕ) (chain : ℕ → List ℕ) (ever_used : ℕ) where
  -- the first freed page
  pub freed_in_hand : (p : ℕ) (free : List ℕ) → AreChains (p ∷ free) owner chain ever_used no_page → AreChains free owner chain ever_used (page_in_hand p)
  freed_in_hand p free a = record {
    once = λ q. let o = a.once q in let t = times_more q p free in grind (arith, nat_tests);
    named = a.named;
    first = a.first;
  }

  -- the first page that was never used
  pub unused_in_hand : (free : List ℕ) → AreChains free owner chain ever_used no_page → AreChains free owner chain (ever_used + 1) (page_in_hand ever_used)
  unused_in_hand free a = record {
    once = λ q. let o = a.once q in grind (arith, nat_tests);
    named = a.named;
    first = a.first;
  }

-- ---- what changes where a page's owner does

pub live_put : (owner : ℕ → ℕ) (p w g : ℕ) → is_live_number (put p w owner) g ≡ (if nat_eq (g - 1) p then nat_lt 0 g && nat_eq w g else is_live_number owner g)
unfolding is_live_number
live_put owner p w g = grind (arith, nat_tests)

uses_by : (owner chained : ℕ → ℕ) (chain chains : ℕ → List ℕ) (q : ℕ) (m l : Bool) → chained q ≡ owner q → nat_lt 4096 (owner q) ≡ m →
    is_live_number owner (owner q) ≡ l → is_live_number chained (owner q) ≡ l → (l ≡ true → times q (chains (owner q)) ≡ times q (chain (owner q))) →
    uses chained chains q ≡ uses owner chain q
unfolding uses
uses_by owner chained chain chains q true l e m d n t = grind (arith, nat_tests)
uses_by owner chained chain chains q false true e m d n t =
    let k = t refl in
    let n' : is_live_number chained (chained q) ≡ true = ap (is_live_number chained) e ∙ n in
    let k' : times q (chains (chained q)) ≡ times q (chain (owner q)) = ap (λ h. times q (chains h)) e ∙ k in grind (arith, nat_tests)
uses_by owner chained chain chains q false false e m d n t =
    let n' : is_live_number chained (chained q) ≡ false = ap (is_live_number chained) e ∙ n in grind (arith, nat_tests)

-- a page's use is the same where its owner, and its place on that owner's chain, are
pub uses_kept : (owner chained : ℕ → ℕ) (chain chains : ℕ → List ℕ) (q : ℕ) → chained q ≡ owner q →
    is_live_number chained (owner q) ≡ is_live_number owner (owner q) →
    (is_live_number owner (owner q) ≡ true → times q (chains (owner q)) ≡ times q (chain (owner q))) → uses chained chains q ≡ uses owner chain q
uses_kept owner chained chain chains q e n t =
    uses_by owner chained chain chains q (nat_lt 4096 (owner q)) (is_live_number owner (owner q)) e refl refl n t

-- ---- a page in hand gets a place

module _ (free : List ℕ) (owner : ℕ → ℕ) (chain : ℕ → List ℕ) (ever_used : ℕ) (p : ℕ) (few : ever_used ≤ 4096)
    (a : AreChains free owner chain ever_used (page_in_hand p)) where
  pub hand_unused : uses owner chain p ≡ 0
  hand_unused = let o = a.once p in grind (arith, nat_tests)

  pub hand_used : p < ever_used
  hand_used = let o = a.once p in grind (arith, nat_tests)

  pub hand_not_free : times p free ≡ 0
  hand_not_free = let o = a.once p in grind (arith, nat_tests)

  pub hand_not_own : is_live_number owner (p + 1) ≡ false
  hand_not_own = own_in_use free owner chain ever_used (page_in_hand p) few a p hand_unused

  pub hand_off : (h : ℕ) → is_live_number owner h ≡ true → times p (chain h) ≡ 0
  hand_off h e = off_chain free owner chain ever_used (page_in_hand p) few a h p e hand_unused

  -- it is no live region's first page
  pub hand_not_first : (h : ℕ) → is_live_number owner h ≡ true → nat_eq p (h - 1) ≡ false
  hand_not_first h e = by_page (nat_eq p (h - 1)) refl
    where
      by_page : (b : Bool) → nat_eq p (h - 1) ≡ b → nat_eq p (h - 1) ≡ false
      by_page false d = d
      by_page true d =
          let s = live_some owner h e in
          let same : p + 1 ≡ h = grind (arith, nat_tests) in
          let n = hand_not_own in
          absurd (let m : is_live_number owner h ≡ false = ap (is_live_number owner) (sym same) ∙ n in cc)

  -- another owner than itself leaves the live numbers as they were
  pub live_same : (w : ℕ) → nat_eq w (p + 1) ≡ false → (g : ℕ) → is_live_number (put p w owner) g ≡ is_live_number owner g
  live_same w o g = live_put owner p w g ∙ by_page (nat_eq (g - 1) p) refl
    where
      by_page : (b : Bool) → nat_eq (g - 1) p ≡ b → (if b then nat_lt 0 g && nat_eq w g else is_live_number owner g) ≡ is_live_number owner g
      by_page false e = refl
      by_page true e = by_some (nat_lt 0 g) refl
        where
          by_some : (c : Bool) → nat_lt 0 g ≡ c → (c && nat_eq w g) ≡ is_live_number owner g
          by_some true s =
              let same : p + 1 ≡ g = grind (arith, nat_tests) in
              let dead : is_live_number owner g ≡ false = ap (is_live_number owner) (sym same) ∙ hand_not_own in
              let other : nat_eq w g ≡ false = ap (nat_eq w) (sym same) ∙ o in other ∙ sym dead
          by_some false s = let z : g ≡ 0 = grind (arith, nat_tests) in sym (ap (is_live_number owner) z ∙ live_none owner)

  -- it is marked
  pub hand_marked : (w : ℕ) (chains : ℕ → List ℕ) → 4096 < w → p < 4096 →
      ((g : ℕ) → is_live_number owner g ≡ true → chains g ≡ chain g) → AreChains free (put p w owner) chains ever_used no_page
  hand_marked w chains m s c =
      let live = live_same w (grind (arith, nat_tests)) in
      record {
        once = λ q. by_page q (nat_eq q p) refl live;
        named = λ h q e l. named_by h q (nat_eq q p) refl (sym (live h) ∙ e) l;
        first = λ h e. let d = sym (live h) ∙ e in ap (last_or h) (c h d) ∙ a.first h d;
      }
    where
      by_page : (q : ℕ) (b : Bool) → nat_eq q p ≡ b → ((g : ℕ) → is_live_number (put p w owner) g ≡ is_live_number owner g) →
          times q free + uses (put p w owner) chains q + (if nat_lt q ever_used then 0 else 1) + 0 ≡ 1
      by_page q true e live =
          let same : put p w owner q ≡ w = rw e refl in
          let u = uses_marked (put p w owner) chains q (omega (arith, same, m)) in let o = a.once q in grind (arith, nat_tests)
      by_page q false e live =
          let same : put p w owner q ≡ owner q = rw e refl in
          let u = uses_kept owner (put p w owner) chain chains q same (live (owner q)) (λ d. ap (times q) (c (owner q) d)) in
          let o = a.once q in grind (arith, nat_tests)

      named_by : (h q : ℕ) (b : Bool) → nat_eq q p ≡ b → is_live_number owner h ≡ true → 0 < times q (chains h) → put p w owner q ≡ h
      named_by h q true e d l =
          let n = hand_off h d in let same : q ≡ p = grind (arith, nat_tests) in
          let t : times q (chains h) ≡ 0 = ap (times q) (c h d) ∙ ap (λ k. times k (chain h)) same ∙ n in absurd (omega (arith, t, l))
      named_by h q false e d l = let same : put p w owner q ≡ owner q = rw e refl in same ∙ a.named h q d (subst (λ t. 0 < t) (ap (times q) (c h d)) l)

  -- it becomes a live region's newest page
  module _ (h : ℕ) (chains : ℕ → List ℕ) (live : is_live_number owner h ≡ true) (grown : chains h ≡ p ∷ chain h)
      (others : (g : ℕ) → nat_eq g h ≡ false → is_live_number owner g ≡ true → chains g ≡ chain g) where
    h_small : h ≤ 4096
    h_small = live_small free owner chain ever_used (page_in_hand p) few a h live

    not_own : nat_eq h (p + 1) ≡ false
    not_own = let f = hand_not_first h live in let s = live_some owner h live in grind (arith, nat_tests)

    pub grown_live : (g : ℕ) → is_live_number (put p h owner) g ≡ is_live_number owner g
    grown_live = live_same h not_own

    -- other pages are as often on each chain
    pub times_grown : (g q : ℕ) → nat_eq q p ≡ false → is_live_number owner g ≡ true → times q (chains g) ≡ times q (chain g)
    times_grown g q e l = by_region (nat_eq g h) refl
      where
        by_region : (b : Bool) → nat_eq g h ≡ b → times q (chains g) ≡ times q (chain g)
        by_region true d =
            let same : g ≡ h = grind (arith, nat_tests) in
            ap (λ k. times q (chains k)) same ∙ ap (times q) grown ∙ times_more q p (chain h) ∙ (rw e refl) ∙ ap (λ k. times q (chain k)) (sym same)
        by_region false d = ap (times q) (others g d l)

    pub hand_grown : AreChains free (put p h owner) chains ever_used no_page
    hand_grown = record {
      once = λ q. by_page q (nat_eq q p) refl;
      named = λ g q e l. named_by g q (nat_eq q p) refl (sym (grown_live g) ∙ e) l;
      first = λ g e. first_by g (nat_eq g h) refl (sym (grown_live g) ∙ e);
    }
      where
        by_page : (q : ℕ) (b : Bool) → nat_eq q p ≡ b → times q free + uses (put p h owner) chains q + (if nat_lt q ever_used then 0 else 1) + 0 ≡ 1
        by_page q true e =
            let same : q ≡ p = grind (arith, nat_tests) in
            let is : put p h owner q ≡ h = rw e refl in
            let s = h_small in
            let n : is_live_number (put p h owner) (put p h owner q) ≡ true = ap (is_live_number (put p h owner)) is ∙ grown_live h ∙ live in
            let u = uses_live (put p h owner) chains q (omega (arith, is, s)) n in
            let t : times q (chains (put p h owner q)) ≡ times p (p ∷ chain h) = ap (λ k. times q (chains k)) is ∙ ap (times q) grown ∙ ap (λ k. times k
            (p ∷ chain h)) same in
            let m = times_more p p (chain h) in let z = hand_off h live in
            let o = a.once p in
            let done : times p free + uses (put p h owner) chains q + (if nat_lt p ever_used then 0 else 1) + 0 ≡ 1 = grind (arith, nat_tests) in
            subst (λ k. times k free + uses (put p h owner) chains q + (if nat_lt k ever_used then 0 else 1) + 0 ≡ 1) (sym same) done
        by_page q false e =
            let same : put p h owner q ≡ owner q = rw e refl in
            let u = uses_kept owner (put p h owner) chain chains q same (grown_live (owner q)) (λ d. times_grown (owner q) q e d) in
            let o = a.once q in grind (arith, nat_tests)

        named_by : (g q : ℕ) (b : Bool) → nat_eq q p ≡ b → is_live_number owner g ≡ true → 0 < times q (chains g) → put p h owner q ≡ g
        named_by g q false e d l =
            let same : put p h owner q ≡ owner q = rw e refl in same ∙ a.named g q d (subst (λ t. 0 < t) (times_grown g q e d) l)
        named_by g q true e d l = by_region (nat_eq g h) refl
          where
            is : put p h owner q ≡ h
            is = rw e refl

            by_region : (c : Bool) → nat_eq g h ≡ c → put p h owner q ≡ g
            by_region true f = let same : g ≡ h = grind (arith, nat_tests) in is ∙ sym same
            by_region false f =
                let n = hand_off g d in let same : q ≡ p = grind (arith, nat_tests) in
                let t : times q (chains g) ≡ 0 = ap (times q) (others g f d) ∙ ap (λ k. times k (chain g)) same ∙ n in absurd (omega (arith, t, l))

        first_by : (g : ℕ) (b : Bool) → nat_eq g h ≡ b → is_live_number owner g ≡ true → last_or g (chains g) ≡ g - 1
        first_by g false e d = ap (last_or g) (others g e d) ∙ a.first g d
        first_by g true e d =
            let same : g ≡ h = grind (arith, nat_tests) in
            let s = live_some owner h live in
            ap (λ k. last_or k (chains k)) same ∙ ap (last_or h) grown ∙ last_more h p (chain h) (h - 1) (grind (arith, nat_tests)) (a.first h live)
            ∙ ap (λ k. k - 1) (sym same)

  -- it becomes the first page of a region with its number
  module _ (chains : ℕ → List ℕ) (small : p < 4096) (started : chains (p + 1) ≡ p ∷ [])
      (others : (g : ℕ) → nat_eq g (p + 1) ≡ false → is_live_number owner g ≡ true → chains g ≡ chain g) where
    pub started_live : (g : ℕ) → is_live_number (put p (p + 1) owner) g ≡ (if nat_eq g (p + 1) then true else is_live_number owner g)
    started_live g = live_put owner p (p + 1) g ∙ by_page (nat_eq (g - 1) p) refl
      where
        by_page : (b : Bool) → nat_eq (g - 1) p ≡ b → (if b then nat_lt 0 g && nat_eq (p + 1) g else is_live_number owner g) ≡ (if nat_eq g
            (p + 1) then true else is_live_number owner g)
        by_page false e = let n : nat_eq g (p + 1) ≡ false = grind (arith, nat_tests) in rw n refl
        by_page true e = by_some (nat_lt 0 g) refl
          where
            by_some : (c : Bool) → nat_lt 0 g ≡ c → (c && nat_eq (p + 1) g) ≡ (if nat_eq g (p + 1) then true else is_live_number owner g)
            by_some true s = grind (arith, nat_tests)
            by_some false s =
                let z : g ≡ 0 = grind (arith, nat_tests) in
                let d : is_live_number owner g ≡ false = ap (is_live_number owner) z ∙ live_none owner in grind (arith, nat_tests)

    pub hand_started : AreChains free (put p (p + 1) owner) chains ever_used no_page
    hand_started = record {
      once = λ q. by_page q (nat_eq q p) refl;
      named = λ g q e l. named_by g q (nat_eq g (p + 1)) refl e l;
      first = λ g e. first_by g (nat_eq g (p + 1)) refl e;
    }
      where
        live_other : (g : ℕ) → nat_eq g (p + 1) ≡ false → is_live_number (put p (p + 1) owner) g ≡ is_live_number owner g
        live_other g e = started_live g ∙ (rw e refl)

        live_own_page : is_live_number (put p (p + 1) owner) (p + 1) ≡ true
        live_own_page = started_live (p + 1) ∙ (let r : nat_eq (p + 1) (p + 1) ≡ true = grind (arith, nat_tests) in rw r refl)

        by_page : (q : ℕ) (b : Bool) → nat_eq q p ≡ b → times q free + uses (put p (p + 1) owner) chains q + (if nat_lt q ever_used then 0 else 1) + 0 ≡ 1
        by_page q true e =
            let same : q ≡ p = grind (arith, nat_tests) in
            let is : put p (p + 1) owner q ≡ p + 1 = rw e refl in
            let n : is_live_number (put p (p + 1) owner) (put p (p + 1) owner q) ≡ true = ap (is_live_number (put p (p + 1) owner)) is ∙ live_own_page in
            let u = uses_live (put p (p + 1) owner) chains q (omega (arith, is, small)) n in
            let t : times q (chains (put p (p + 1) owner q)) ≡ times p (p ∷ []) = ap (λ k. times q (chains k)) is ∙ ap (times q) started ∙ ap (λ k. times k
            (p ∷ [])) same in
            let m = times_more p p [] in let z = times_none p in
            let o = a.once p in
            let done : times p free + uses (put p (p + 1) owner) chains q + (if nat_lt p ever_used then 0 else 1) + 0 ≡ 1 = grind (arith, nat_tests) in
            subst (λ k. times k free + uses (put p (p + 1) owner) chains q + (if nat_lt k ever_used then 0 else 1) + 0 ≡ 1) (sym same) done
        by_page q false e = stale (nat_eq (owner q) (p + 1)) refl
          where
            is : put p (p + 1) owner q ≡ owner q
            is = rw e refl

            stale : (c : Bool) → nat_eq (owner q) (p + 1) ≡ c → times q free + uses (put p (p + 1) owner) chains q +
                (if nat_lt q ever_used then 0 else 1) + 0 ≡ 1
            stale false f =
                let u = uses_kept owner (put p (p + 1) owner) chain chains q is (live_other (owner q) f) (λ d. ap (times q) (others (owner q) f d)) in
                let o = a.once q in grind (arith, nat_tests)
            stale true f =
                let now : put p (p + 1) owner q ≡ p + 1 = is ∙ (grind (arith, nat_tests)) in
                let n : is_live_number (put p (p + 1) owner) (put p (p + 1) owner q) ≡ true = ap (is_live_number (put p (p + 1) owner)) now ∙ live_own_page in
                let u = uses_live (put p (p + 1) owner) chains q (omega (arith, now, small)) n in
                let t : times q (chains (put p (p + 1) owner q)) ≡ times q (p ∷ []) = ap (λ k. times q (chains k)) now ∙ ap (times q) started in
                let m = times_more q p [] in let z = times_none q in
                let same : owner q ≡ p + 1 = grind (arith, nat_tests) in
                let dead = uses_dead owner chain q (omega (arith, same, small)) (ap (is_live_number owner) same ∙ hand_not_own) in
                let o = a.once q in grind (arith, nat_tests)

        named_by : (g q : ℕ) (b : Bool) → nat_eq g (p + 1) ≡ b → is_live_number (put p (p + 1) owner) g ≡ true → 0 < times q (chains g) →
            put p (p + 1) owner q ≡ g
        named_by g q true e d l =
            let same : g ≡ p + 1 = grind (arith, nat_tests) in
            let t : times q (chains g) ≡ times q (p ∷ []) = ap (λ k. times q (chains k)) same ∙ ap (times q) started in
            let m = times_more q p [] in let z = times_none q in
            let here : nat_eq q p ≡ true = grind (arith, nat_tests) in
            let is : put p (p + 1) owner q ≡ p + 1 = rw here refl in is ∙ sym same
        named_by g q false e d l = by_here (nat_eq q p) refl
          where
            live : is_live_number owner g ≡ true
            live = sym (live_other g e) ∙ d

            there : 0 < times q (chain g)
            there = subst (λ t. 0 < t) (ap (times q) (others g e live)) l

            by_here : (c : Bool) → nat_eq q p ≡ c → put p (p + 1) owner q ≡ g
            by_here false f = let is : put p (p + 1) owner q ≡ owner q = rw f refl in is ∙ a.named g q live there
            by_here true f =
                let same : q ≡ p = grind (arith, nat_tests) in let z = hand_off g live in
                let t = subst (λ k. 0 < times k (chain g)) same there in absurd (omega (arith, t, z))

        first_by : (g : ℕ) (b : Bool) → nat_eq g (p + 1) ≡ b → is_live_number (put p (p + 1) owner) g ≡ true → last_or g (chains g) ≡ g - 1
        first_by g false e d = let live = sym (live_other g e) ∙ d in ap (last_or g) (others g e live) ∙ a.first g live
        first_by g true e d =
            let same : g ≡ p + 1 = grind (arith, nat_tests) in
            ap (λ k. last_or k (chains k)) same ∙ ap (last_or (p + 1)) started ∙ last_one (p + 1) p ∙ (omega (arith, same))
