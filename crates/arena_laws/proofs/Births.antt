-- Each call keeps the agreement of the counts by births with the store's own.
use Rattle.std.proofs.Common.{◌≡◌, ℕ, zero, suc, ◌-◌, ◌<◌, Bool, true, false, Option, Some, None, Result, Ok, Err, nat_eq, nat_le, refl, sym, ap, subst, ◌∙◌}
use Rattle.std.proofs.Common.{arith}
use Rattle.std.specs.Prelude.{◌&&◌, ◌^◌, nat_lt, if◌then◌else◌}
use Rattle.std.proofs.lemmas.Bool.Decides.{nat_tests}
use Rattle.arena_laws.specs.declared.refusal.StoreRefusal.{StoreRefusal}
use Rattle.arena_laws.specs.declared.refusal.StoreRefusal.TheVariants.{Full, BadHandle, BadKey, Open, NotOpen}
use Rattle.arena_laws.specs.declared.standing.Standing.{Standing}
use Rattle.arena_laws.specs.declared.standing.Standing.TheVariants.{Lexical, Opened, Closed}
use Rattle.arena_laws.specs.Counts.{put, one_less, without_region, is_full}
use Rattle.arena_laws.specs.Holdings.{Holdings, is_none, is_some}
use Rattle.arena_laws.specs.Lawful.{Grants, Refuses, refuses, with_number, is_new_number, without_number, is_of, standing_as, frees_region, frees_key, opens}
use Rattle.arena_laws.specs.Lawful.{closes}
use Rattle.arena_laws.specs.Laws.{Does, made}
use Rattle.arena_laws.specs.Pages.{ByBirth, born}
use Rattle.arena_laws.specs.Calls.{Names, Agree, is_granted_or_full}

-- ---- what a call left, from what it said

-- a call that was Full left everything as it was
pub full_left : (standing : Standing) (s after : Holdings) → Does (Err Full) after (made standing Refuses s) → after ≡ s
full_left standing s after d = by_full (is_full s.counts) refl
  where
    by_full : (b : Bool) → is_full s.counts ≡ b → after ≡ s
    by_full true e = (rw e at d).holds
    by_full false e = (rw e at d).holds

-- what a grant of a region or a key left
pub record IsMade (standing : Standing) (h : ℕ) (s after : Holdings) : Type 0 where
  pub new : is_new_number s h ≡ true
  pub left : after ≡ with_number h standing s

pub made_left : (standing : Standing) (n : ℕ) (s after : Holdings) → Does (Ok n) after (made standing (Grants n) s) → IsMade standing n s after
made_left standing n s after d = by_full (is_full s.counts) refl
  where
    by_new : (b : Bool) → is_new_number s n ≡ b → Does (Ok n) after (if b then record { says = Ok n; after = with_number n standing s } else refuses Full s) →
        IsMade standing n s after
    by_new true e d = record { new = e; left = d.holds }
    by_new false e d = absurd (let x = d.says in cc)

    by_full : (b : Bool) → is_full s.counts ≡ b → IsMade standing n s after
    by_full true e = absurd (let x = (rw e at d).says in cc)
    by_full false e = by_new (is_new_number s n) refl (rw e at d)

-- ---- a single page is taken

pub one_less_agrees : (names : Names) (b : ByBirth) (s : Holdings) → Agree names b s →
    ((one_less s.counts).fresh ≡ (one_less b.counts).fresh) × ((one_less s.counts).given ≡ (one_less b.counts).given)
one_less_agrees names b s a = (
  ap (λ g. if nat_eq g 0 then s.counts.fresh - 1 else s.counts.fresh) a.given
      ∙ ap (λ f. if nat_eq b.counts.given 0 then f - 1 else f) a.fresh,
  ap (λ g. g - 1) a.given,
)

-- ---- a region or a key is born

module _ (names : Names) (b : ByBirth) (s : Holdings) (h : ℕ) (standing : Standing) (new : is_new_number s h ≡ true) (a : Agree names b s) where
  abbrev pub born_names : Names
  born_names = record names { number = put (suc b.births) (Some h) names.number }

  above : 0 < h
  above = grind (arith, nat_tests)

  unused : is_none (s.standing h) ≡ true
  unused = by_tests (nat_le 1 h) (nat_lt h (2 ^ 32)) new
    where
      by_tests : (t u : Bool) → (t && (u && is_none (s.standing h))) ≡ true → is_none (s.standing h) ≡ true
      by_tests true true e = e
      by_tests true false e = absurd (cc)
      by_tests false u e = absurd (cc)

  both : (o : Option Standing) → is_none o ≡ true → is_some o ≡ true → ⊥
  both None n s = cc
  both (Some x) n s = cc

  other : (d k : ℕ) → names.number d ≡ Some k → nat_eq k h ≡ false
  other zero k e = let z = a.heap in let l = above in let q : k ≡ 0 = cc in grind (arith, nat_tests)
  other (suc d) k e = by_same (nat_eq k h) refl
    where
      by_same : (t : Bool) → nat_eq k h ≡ t → t ≡ false
      by_same false f = refl
      by_same true f =
          let same : k ≡ h = grind (arith, nat_tests) in
          absurd (both (s.standing h) unused (subst (λ k. is_some (s.standing k) ≡ true) same (a.live d k e)))

  pub born_agrees : Agree born_names (born b) (with_number h standing s)
  born_agrees = record {
    fresh = (one_less_agrees names b s a).0;
    given = (one_less_agrees names b s a).1;
    taken = λ d k e. let t = a.taken d k in let o = other d k in grind (arith, nat_tests);
    left = λ d k e. let t = a.left d k in let o = other d k in grind (arith, nat_tests);
    class_pages = a.class_pages;
    slots = a.slots;
    apart = λ d e k x y. let t = a.apart d e k in let o = other d k in let q = other e k in grind (arith, nat_tests);
    apart_blocks = a.apart_blocks;
    heap = (let z : nat_eq 0 (suc b.births) ≡ false = grind (arith, nat_tests) in rw z a.heap);
    no_heap = (let l = above in let z : nat_eq 0 h ≡ false = grind (arith, nat_tests) in rw z a.no_heap);
    live = λ d k e. live_by (nat_eq k h) (nat_eq (suc d) (suc b.births)) d k refl refl e;
    blocks = a.blocks;
    unborn = λ d l. let t = a.unborn d in grind (arith, nat_tests);
    unborn_blocks = λ d l. a.unborn_blocks d (omega (arith, l));
  }
    where
      live_by : (t u : Bool) (d k : ℕ) → nat_eq k h ≡ t → nat_eq (suc d) (suc b.births) ≡ u → put (suc b.births) (Some h) names.number (suc d) ≡ Some k →
          is_some (put h (Some standing) s.standing k) ≡ true
      live_by true u d k f g e = rw f refl
      live_by false true d k f g e = absurd (let x : Some h ≡ Some k = ap (λ t. if t then Some h else names.number (suc d)) (sym g) ∙ e in
          let same : h ≡ k = cc in grind (arith, nat_tests))
      live_by false false d k f g e = rw f (a.live d k (ap (λ t. if t then Some h else names.number (suc d)) (sym g) ∙ e))

-- ---- a call that takes nothing: what it said and left

pub record Gives (n : ℕ) (left : Holdings) (result : Result ℕ StoreRefusal) (after : Holdings) : Type 0 where
  pub says : result ≡ Ok n
  pub holds : after ≡ left

pub out_of_order : (result : Result ℕ StoreRefusal) (why : StoreRefusal) → is_granted_or_full result ≡ true → result ≡ Err why →
    is_granted_or_full (Err why) ≡ false → ⊥
out_of_order result why g e n = let x : is_granted_or_full (Err why) ≡ true = sym (ap is_granted_or_full e) ∙ g in cc

pub record IsFreed (h : ℕ) (s : Holdings) (result : Result ℕ StoreRefusal) (after : Holdings) : Type 0 where
  pub was : is_some (s.standing h) ≡ true
  pub gives : Gives 0 (without_number h s) result after

pub region_freed : (h : ℕ) (s : Holdings) (result : Result ℕ StoreRefusal) (after : Holdings) → is_granted_or_full result ≡ true →
    Does result after (frees_region h (s.standing h) s) → IsFreed h s result after
region_freed h s result after g d = by_standing (s.standing h) refl d
  where
    by_standing : (o : Option Standing) → s.standing h ≡ o → Does result after (frees_region h o s) → IsFreed h s result after
    by_standing (Some Lexical) e d = record { was = ap is_some e; gives = record { says = d.says; holds = d.holds } }
    by_standing (Some Opened) e d = absurd (out_of_order result BadHandle g d.says refl)
    by_standing (Some Closed) e d = absurd (out_of_order result BadHandle g d.says refl)
    by_standing None e d = absurd (out_of_order result BadHandle g d.says refl)

pub key_freed : (h : ℕ) (s : Holdings) (result : Result ℕ StoreRefusal) (after : Holdings) → is_granted_or_full result ≡ true →
    Does result after (frees_key h (s.standing h) s) → IsFreed h s result after
key_freed h s result after g d = by_standing (s.standing h) refl d
  where
    by_standing : (o : Option Standing) → s.standing h ≡ o → Does result after (frees_key h o s) → IsFreed h s result after
    by_standing (Some Closed) e d = record { was = ap is_some e; gives = record { says = d.says; holds = d.holds } }
    by_standing (Some Opened) e d = absurd (out_of_order result Open g d.says refl)
    by_standing (Some Lexical) e d = absurd (out_of_order result BadKey g d.says refl)
    by_standing None e d = absurd (out_of_order result BadKey g d.says refl)

pub record IsTurned (n h : ℕ) (now : Standing) (s : Holdings) (result : Result ℕ StoreRefusal) (after : Holdings) : Type 0 where
  pub was : is_some (s.standing h) ≡ true
  pub gives : Gives n (standing_as h now s) result after

pub key_opened : (h : ℕ) (s : Holdings) (result : Result ℕ StoreRefusal) (after : Holdings) → is_granted_or_full result ≡ true →
    Does result after (opens h (s.standing h) s) → IsTurned h h Opened s result after
key_opened h s result after g d = by_standing (s.standing h) refl d
  where
    by_standing : (o : Option Standing) → s.standing h ≡ o → Does result after (opens h o s) → IsTurned h h Opened s result after
    by_standing (Some Closed) e d = record { was = ap is_some e; gives = record { says = d.says; holds = d.holds } }
    by_standing (Some Opened) e d = absurd (out_of_order result Open g d.says refl)
    by_standing (Some Lexical) e d = absurd (out_of_order result BadKey g d.says refl)
    by_standing None e d = absurd (out_of_order result BadKey g d.says refl)

pub key_closed : (h : ℕ) (s : Holdings) (result : Result ℕ StoreRefusal) (after : Holdings) → is_granted_or_full result ≡ true →
    Does result after (closes h (s.standing h) s) → IsTurned 0 h Closed s result after
key_closed h s result after g d = by_standing (s.standing h) refl d
  where
    by_standing : (o : Option Standing) → s.standing h ≡ o → Does result after (closes h o s) → IsTurned 0 h Closed s result after
    by_standing (Some Opened) e d = record { was = ap is_some e; gives = record { says = d.says; holds = d.holds } }
    by_standing (Some Closed) e d = absurd (out_of_order result NotOpen g d.says refl)
    by_standing (Some Lexical) e d = absurd (out_of_order result BadKey g d.says refl)
    by_standing None e d = absurd (out_of_order result BadKey g d.says refl)

-- ---- a number is freed

module _ (names : Names) (b : ByBirth) (s : Holdings) (d h : ℕ) (is : names.number d ≡ Some h) (was : is_some (s.standing h) ≡ true) (a : Agree names b s) where
  no_heap_freed : nat_eq h 0 ≡ false
  no_heap_freed = by_zero (nat_eq h 0) refl
    where
      by_zero : (t : Bool) → nat_eq h 0 ≡ t → t ≡ false
      by_zero false f = refl
      by_zero true f =
          let same : h ≡ 0 = grind (arith, nat_tests) in
          let x : is_some (s.standing 0) ≡ true = subst (λ h. is_some (s.standing h) ≡ true) same was in
          let y : is_some (s.standing 0) ≡ false = ap is_some a.no_heap in cc

  not_zero : nat_eq d 0 ≡ false
  not_zero = by_zero (nat_eq d 0) refl
    where
      by_zero : (t : Bool) → nat_eq d 0 ≡ t → t ≡ false
      by_zero false f = refl
      by_zero true f =
          let same : d ≡ 0 = grind (arith, nat_tests) in
          let x : Some h ≡ Some 0 = sym is ∙ ap names.number same ∙ a.heap in let y : h ≡ 0 = cc in
          absurd (let n = no_heap_freed in grind (arith, nat_tests))

  kept_name : (e k : ℕ) → put d None names.number e ≡ Some k → (nat_eq e d ≡ false) × (names.number e ≡ Some k)
  kept_name e k f = by_same (nat_eq e d) refl
    where
      by_same : (t : Bool) → nat_eq e d ≡ t → (nat_eq e d ≡ false) × (names.number e ≡ Some k)
      by_same true g = absurd (let x : None ≡ Some k = ap (λ t. if t then None else names.number e) (sym g) ∙ f in cc)
      by_same false g = (g, ap (λ t. if t then None else names.number e) (sym g) ∙ f)

  other_number : (e k : ℕ) → nat_eq e d ≡ false → names.number e ≡ Some k → nat_eq k h ≡ false
  other_number e k g f = by_same (nat_eq k h) refl
    where
      by_same : (t : Bool) → nat_eq k h ≡ t → t ≡ false
      by_same false x = refl
      by_same true x =
          let same : k ≡ h = grind (arith, nat_tests) in let y = a.apart e d k f (is ∙ ap Some (sym same)) in absurd (grind (arith, nat_tests))

  pub freed_agrees : Agree (record names { number = put d None names.number }) (record b { counts = without_region d b.counts }) (without_number h s)
  freed_agrees = record {
    fresh = a.fresh;
    given = (let t = a.taken d h is in let f = a.given in omega (arith, t, f));
    taken = λ e k x. let n = kept_name e k x in let o = other_number e k n.0 n.1 in let t = a.taken e k n.1 in let g = n.0 in grind (arith, nat_tests);
    left = λ e k x. let n = kept_name e k x in let o = other_number e k n.0 n.1 in let t = a.left e k n.1 in let g = n.0 in grind (arith, nat_tests);
    class_pages = a.class_pages;
    slots = a.slots;
    apart = λ e f k x y. a.apart e f k (kept_name e k x).1 (kept_name f k y).1;
    apart_blocks = a.apart_blocks;
    heap = (let n = not_zero in let z : nat_eq 0 d ≡ false = grind (arith, nat_tests) in rw z a.heap);
    no_heap = (let n = no_heap_freed in let z : nat_eq 0 h ≡ false = grind (arith, nat_tests) in rw z a.no_heap);
    live = λ e k x. let n = kept_name (suc e) k x in let o = other_number (suc e) k n.0 n.1 in rw o (a.live e k n.1);
    blocks = λ e at x. ap (λ o. if is_of h o then None else o) (a.blocks e at x);
    unborn = λ e l. unborn_by (nat_eq e d) e l;
    unborn_blocks = a.unborn_blocks;
  }
    where
      unborn_by : (t : Bool) (e : ℕ) → b.births < e → (if t then None else names.number e) ≡ None
      unborn_by true e l = refl
      unborn_by false e l = a.unborn e l

-- ---- a key is opened or closed

pub turned_agrees : (names : Names) (b : ByBirth) (s : Holdings) (k : ℕ) (now : Standing) → is_some (s.standing k) ≡ true → Agree names b s →
    Agree names b (standing_as k now s)
turned_agrees names b s k now was a = record {
  fresh = a.fresh;
  given = a.given;
  taken = a.taken;
  left = a.left;
  class_pages = a.class_pages;
  slots = a.slots;
  apart = a.apart;
  apart_blocks = a.apart_blocks;
  heap = a.heap;
  no_heap = (let z = not_heap (nat_eq 0 k) refl in rw z a.no_heap);
  live = λ d h e. live_by (nat_eq h k) h (a.live d h e);
  blocks = a.blocks;
  unborn = a.unborn;
  unborn_blocks = a.unborn_blocks;
}
  where
    live_by : (t : Bool) (h : ℕ) → is_some (s.standing h) ≡ true → is_some (if t then Some now else s.standing h) ≡ true
    live_by true h e = refl
    live_by false h e = e

    not_heap : (t : Bool) → nat_eq 0 k ≡ t → nat_eq 0 k ≡ false
    not_heap false f = f
    not_heap true f =
        let same : k ≡ 0 = grind (arith, nat_tests) in
        absurd (let x : is_some (s.standing 0) ≡ true = subst (λ h. is_some (s.standing h) ≡ true) same was in
        let y : is_some (s.standing 0) ≡ false = ap is_some a.no_heap in cc)
