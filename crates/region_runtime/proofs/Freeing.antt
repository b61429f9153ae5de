-- Each page keeps one place while a region's pages are freed.
use Rattle.std.proofs.Common.{◌≡◌, ℕ, ◌+◌, ◌-◌, ◌<◌, ◌≤◌, Bool, true, false, List, ◌++◌, nat_eq, nat_lt, refl, sym, ap, subst, ◌∙◌, arith}
use Rattle.std.specs.Prelude.{if◌then◌else◌, ◌&&◌}
use Rattle.std.proofs.lemmas.Bool.Decides.{nat_tests}
use Rattle.arena_laws.specs.Counts.{put}
use Rattle.region_runtime.specs.Chains.{times, last_or}
use Rattle.region_runtime.specs.Headers.{is_live_number}
use Rattle.region_runtime.specs.Sound.{AreChains, uses, no_page}
use Rattle.region_runtime.proofs.Words.{live_some, live_own, live_none}
use Rattle.region_runtime.proofs.Chains.{times_append}
use Rattle.region_runtime.proofs.Places.{uses_live, uses_dead, uses_kept, live_put, live_small}

module _ (free : List ℕ) (owner : ℕ → ℕ) (chain : ℕ → List ℕ) (ever_used : ℕ) (few : ever_used ≤ 4096) (a : AreChains free owner chain ever_used no_page)
    (h : ℕ) (live : is_live_number owner h ≡ true) (chains : ℕ → List ℕ)
    (others : (g : ℕ) → nat_eq g h ≡ false → is_live_number owner g ≡ true → chains g ≡ chain g) where
  pub freed_live : (g : ℕ) → is_live_number (put (h - 1) 0 owner) g ≡ (if nat_eq g h then false else is_live_number owner g)
  freed_live g = live_put owner (h - 1) 0 g ∙ by_page (nat_eq (g - 1) (h - 1)) refl
    where
      by_page : (b : Bool) → nat_eq (g - 1) (h - 1) ≡ b → (if b then nat_lt 0 g && nat_eq 0 g else is_live_number owner g) ≡ (if nat_eq g
          h then false else is_live_number owner g)
      by_page false e = let n : nat_eq g h ≡ false = grind (arith, nat_tests) in rw n refl
      by_page true e = by_some (nat_lt 0 g) refl
        where
          by_some : (c : Bool) → nat_lt 0 g ≡ c → (c && nat_eq 0 g) ≡ (if nat_eq g h then false else is_live_number owner g)
          by_some true s = let l = live_some owner h live in grind (arith, nat_tests)
          by_some false s =
              let z : g ≡ 0 = grind (arith, nat_tests) in
              let d : is_live_number owner g ≡ false = ap (is_live_number owner) z ∙ live_none owner in grind (arith, nat_tests)

  pub live_other : (g : ℕ) → nat_eq g h ≡ false → is_live_number (put (h - 1) 0 owner) g ≡ is_live_number owner g
  live_other g e = freed_live g ∙ (rw e refl)

  pub dead_now : is_live_number (put (h - 1) 0 owner) h ≡ false
  dead_now = freed_live h ∙ (let r : nat_eq h h ≡ true = grind (arith, nat_tests) in rw r refl)

  own_first : owner (h - 1) ≡ h
  own_first = live_own owner h live

  -- pages of other owners aren't on the region's chain
  pub off_freed : (q : ℕ) → nat_eq (owner q) h ≡ false → times q (chain h) ≡ 0
  off_freed q e = by_times (nat_lt 0 (times q (chain h))) refl
    where
      by_times : (b : Bool) → nat_lt 0 (times q (chain h)) ≡ b → times q (chain h) ≡ 0
      by_times false l = grind (arith, nat_tests)
      by_times true l = let n = a.named h q live (grind (arith, nat_tests)) in absurd (grind (arith, nat_tests))

  -- and of the region's own owner word each is used as often as it is on the chain, and then not at all
  pub uses_freed : (q : ℕ) → nat_eq (owner q) h ≡ true → uses owner chain q ≡ times q (chain h)
  uses_freed q e =
      let same : owner q ≡ h = grind (arith, nat_tests) in let s = live_small free owner chain ever_used no_page few a h live in
      uses_live owner chain q (omega (arith, same, s)) (ap (is_live_number owner) same ∙ live) ∙ ap (λ k. times q (chain k)) same

  no_uses : (q : ℕ) → nat_eq (owner q) h ≡ true → uses (put (h - 1) 0 owner) chains q ≡ 0
  no_uses q e = by_page (nat_eq q (h - 1)) refl
    where
      by_page : (b : Bool) → nat_eq q (h - 1) ≡ b → uses (put (h - 1) 0 owner) chains q ≡ 0
      by_page true d =
          let is : put (h - 1) 0 owner q ≡ 0 = rw d refl in
          uses_dead (put (h - 1) 0 owner) chains q (omega (arith, is)) (ap (is_live_number (put (h - 1) 0 owner)) is ∙ live_none (put (h - 1) 0 owner))
      by_page false d =
          let is : put (h - 1) 0 owner q ≡ owner q = rw d refl in let same : owner q ≡ h = grind (arith, nat_tests) in
          let s = live_small free owner chain ever_used no_page few a h live in
          uses_dead (put (h - 1) 0 owner) chains q (omega (arith, is, same, s)) (ap (is_live_number (put (h - 1) 0 owner)) (is ∙ same) ∙ dead_now)

  pub other_page : (q : ℕ) → nat_eq (owner q) h ≡ false → put (h - 1) 0 owner q ≡ owner q
  other_page q e = by_page (nat_eq q (h - 1)) refl
    where
      by_page : (b : Bool) → nat_eq q (h - 1) ≡ b → (if b then 0 else owner q) ≡ owner q
      by_page false d = refl
      by_page true d = let same : q ≡ h - 1 = grind (arith, nat_tests) in let o = ap owner same ∙ own_first in absurd (grind (arith, nat_tests))

  pub all_freed : AreChains (chain h ++ free) (put (h - 1) 0 owner) chains ever_used no_page
  all_freed = record {
    once = λ q. by_owner q (nat_eq (owner q) h) refl;
    named = λ g q e l. named_by g q (nat_eq g h) refl e l;
    first = λ g e. first_by g (nat_eq g h) refl e;
  }
    where
      by_owner : (q : ℕ) (b : Bool) → nat_eq (owner q) h ≡ b → times q (chain h ++ free) + uses (put (h - 1) 0 owner) chains q +
          (if nat_lt q ever_used then 0 else 1) + 0 ≡ 1
      by_owner q true e =
          let t = times_append q (chain h) free in let u = uses_freed q e in let n = no_uses q e in let o = a.once q in omega (arith, t, u, n, o)
      by_owner q false e =
          let t = times_append q (chain h) free in let z = off_freed q e in
          let u = uses_kept owner (put (h - 1) 0 owner) chain chains q (other_page q e) (live_other (owner q) e) (λ d. ap (times q) (others (owner q) e d)) in
          let o = a.once q in omega (arith, t, z, u, o)

      dead_not : (g : ℕ) → nat_eq g h ≡ true → is_live_number (put (h - 1) 0 owner) g ≡ true → ⊥
      dead_not g e d = let same : g ≡ h = grind (arith, nat_tests) in let n = ap (is_live_number (put (h - 1) 0 owner)) same ∙ dead_now in cc

      named_by : (g q : ℕ) (b : Bool) → nat_eq g h ≡ b → is_live_number (put (h - 1) 0 owner) g ≡ true → 0 < times q (chains g) → put (h - 1) 0 owner q ≡ g
      named_by g q true e d l = absurd (dead_not g e d)
      named_by g q false e d l =
          let was = sym (live_other g e) ∙ d in
          let n = a.named g q was (subst (λ t. 0 < t) (ap (times q) (others g e was)) l) in
          other_page q (ap (λ k. nat_eq k h) n ∙ e) ∙ n

      first_by : (g : ℕ) (b : Bool) → nat_eq g h ≡ b → is_live_number (put (h - 1) 0 owner) g ≡ true → last_or g (chains g) ≡ g - 1
      first_by g true e d = absurd (dead_not g e d)
      first_by g false e d = let was = sym (live_other g e) ∙ d in ap (last_or g) (others g e was) ∙ a.first g was
