-- A store that was just made.
use Rattle.cyc_arena.proofs.Pages.{below_zero}
use Rattle.std.proofs.Common.{◌≡◌, ℕ, zero, suc, ◌+◌, ◌*◌, ◌/◌, ◌<◌, ◌≤◌, Bool, true, false, Option, None, nat_lt, refl, sym, ap, subst, ◌∙◌, arith, length}
use Rattle.std.proofs.Common.{◌-◌}
use Rattle.std.specs.Prelude.{slice_index}
use Rattle.std.proofs.Math.ListN.{replicate}
use Rattle.std.proofs.lemmas.List.{length-replicate}
use Rattle.std.proofs.lemmas.Bool.Decides.{nat_tests}
use Rattle.arena_laws.specs.declared.standing.Standing.{Standing}
use Rattle.arena_laws.specs.Counts.{fresh_counts}
use Rattle.arena_laws.specs.Holdings.{fresh, arena_base, is_none}
use Rattle.cyc_arena.specs.Plain.{Plain, IsSound, count_of, byte_at, standing_at, left_of, owner_at, page_at, place_at, counts_of, holdings_of}
use Rattle.cyc_arena.proofs.Words.{count_none}
use Rattle.cyc_arena.proofs.Owners.{owner_nobody, owner_below, owner_there}

pub zero_at : (n q : ℕ) → slice_index (replicate n 0) q ≡ 0
zero_at zero q = refl
zero_at (suc n) zero = refl
zero_at (suc n) (suc q) = zero_at n q

pub none_at : (n h : ℕ) → standing_at (replicate n None) h ≡ None
none_at zero h = refl
none_at (suc n) zero = refl
none_at (suc n) (suc h) = none_at n h

count_others : (k n : ℕ) → 0 < k → count_of k (replicate n 0) ≡ 0
count_others k n l = count_none k (replicate n 0) (λ q m. let z = zero_at n q in grind (arith, nat_tests))

module _ (n : ℕ) where
  abbrev pub made : Plain
  made = record {
    bytes = replicate (n * 4096) 0;
    owner = replicate n 0;
    used = replicate n 0;
    last = replicate (n + 1) 0;
    standing = replicate (n + 1) None;
    slots = replicate (n * 128) 0;
    ever_used = 0;
  }

  byte_by : (b : Bool) (q : ℕ) → nat_lt q arena_base ≡ b → byte_at made.bytes q ≡ 0
  unfolding byte_at
  byte_by true q b = rw b refl
  byte_by false q b = rw b (zero_at (n * 4096) _)

  owner_by : (b : Bool) (q : ℕ) → nat_lt q arena_base ≡ b → owner_at made.owner made.used made.slots q ≡ None
  owner_by true q b = owner_below made.owner made.used made.slots q b
  owner_by false q b =
      owner_there made.owner made.used made.slots q (page_at q) 0 0 b (grind (arith, nat_tests)) (zero_at n (page_at q)) (zero_at n (page_at q))
      ∙ owner_nobody 0 (page_at q) (place_at q) made.slots

  left_zero : (h : ℕ) → left_of made.used (slice_index made.last h) ≡ 0
  left_zero h = ap (left_of made.used) (zero_at (n + 1) h)

  counted : counts_of made.ever_used made.owner made.used made.last made.slots ≡ fresh_counts n
  unfolding counts_of
  counted = λ i. record {
    fresh = (let l = length-replicate {A = ℕ} n 0 in let e : length {A = ℕ} (replicate n 0) - 0 ≡ n = omega (arith, l) in e) i;
    given = below_zero (replicate n 0) i;
    taken = λ h. count_others (2 * h + 1) n (omega arith) i;
    left = λ h. left_zero h i;
    class_pages = λ c. count_others (2 * c + 2) n (omega arith) i;
    slots = λ c. count_others (2 * c + 1) (n * 128) (omega arith) i;
  }

  pub made_zeros : byte_at made.bytes ≡ (λ q. 0)
  made_zeros = λ i q. byte_by (nat_lt q arena_base) q refl i

  pub made_holds : holdings_of made ≡ fresh n
  made_holds = λ i. record {
    pages = length-replicate {A = ℕ} n 0 i;
    standing = λ h. none_at (n + 1) h i;
    owner = λ q. owner_by (nat_lt q arena_base) q refl i;
    counts = counted i;
  }

  pub made_sound : n ≤ 4096 → IsSound made
  made_sound few = record {
    payload = (let a = length-replicate {A = ℕ} (n * 4096) 0 in let b = length-replicate {A = ℕ} n 0 in omega (arith, a, b));
    used_long = refl;
    last_long = (let a = length-replicate {A = ℕ} (n + 1) 0 in let b = length-replicate {A = ℕ} n 0 in omega (arith, a, b));
    standing_long = (let a = length-replicate {A = Option Standing} (n + 1) None in let b = length-replicate {A = ℕ} n 0 in omega (arith, a, b));
    slots_long = (let a = length-replicate {A = ℕ} (n * 128) 0 in let b = length-replicate {A = ℕ} n 0 in omega (arith, a, b));
    few = (let b = length-replicate {A = ℕ} n 0 in omega (arith, b, few));
    begun = omega arith;
    unused = λ p l. zero_at n p;
    rounded = λ p. let z = zero_at n p in omega (arith, z);
    within = λ p. let z = zero_at n p in omega (arith, z);
    heap = none_at (n + 1) 0;
    known = λ h l. let z = zero_at (n + 1) h in ap is_none (none_at (n + 1) h) ∙ grind (arith, nat_tests);
    headed = λ p l. absurd (let z = zero_at (n + 1) (p + 1) in omega (arith, z, l));
    lived = λ h q b l. let z = zero_at n q in grind (arith, nat_tests);
    ended = λ h q l. absurd (let z = zero_at (n + 1) h in omega (arith, z, l));
    classes = λ q c l. absurd (let z = zero_at n q in omega (arith, z, l));
    live = λ u c l. absurd (let z = zero_at (n * 128) u in omega (arith, z, l));
    vacant = λ u c l. absurd (let z = zero_at (n * 128) u in omega (arith, z, l));
    capacity = λ c.
        let a = count_others (2 * c + 1) (n * 128) (omega arith) in let b = count_others (2 * c + 2) (n * 128) (omega arith) in
        let d = count_others (2 * c + 2) n (omega arith) in
        let m : count_of (2 * c + 2) made.owner * (4096 / c) ≡ zero * (4096 / c) = ap (λ k. k * (4096 / c)) d in
        let z : zero * (4096 / c) ≡ 0 = omega arith in omega (arith, a, b, m, z);
  }

-- the tables as they were made
pub record AreFresh (n : ℕ) (s : Plain) : Type 0 where
  pub bytes : s.bytes ≡ replicate (n * 4096) 0
  pub owner : s.owner ≡ replicate n 0
  pub used : s.used ≡ replicate n 0
  pub last : s.last ≡ replicate (n + 1) 0
  pub standing : s.standing ≡ replicate (n + 1) None
  pub slots : s.slots ≡ replicate (n * 128) 0
  pub ever_used : s.ever_used ≡ 0

pub fresh_is : (n : ℕ) (s : Plain) → AreFresh n s → s ≡ made n
fresh_is n s f = λ i. record {
  bytes = f.bytes i;
  owner = f.owner i;
  used = f.used i;
  last = f.last i;
  standing = f.standing i;
  slots = f.slots i;
  ever_used = f.ever_used i;
}

pub fresh_holds : (n : ℕ) (s : Plain) → AreFresh n s → holdings_of s ≡ fresh n
fresh_holds n s f = ap holdings_of (fresh_is n s f) ∙ made_holds n

pub fresh_zeros : (n : ℕ) (s : Plain) → AreFresh n s → byte_at s.bytes ≡ (λ q. 0)
fresh_zeros n s f = ap byte_at f.bytes ∙ made_zeros n

pub fresh_sound : (n : ℕ) (s : Plain) → AreFresh n s → n ≤ 4096 → IsSound s
fresh_sound n s f l = subst IsSound (sym (fresh_is n s f)) (made_sound n l)
