-- A region or a key is made: the table's first free page becomes its own.
use Rattle.std.proofs.Common.{◌≡◌, ℕ, zero, suc, ◌+◌, ◌-◌, ◌*◌, ◌/◌, ◌<◌, ◌≤◌, Bool, true, false, length, Some, None, Ok, nat_eq, nat_lt, refl, sym, ap, subst}
use Rattle.std.proofs.Common.{◌∙◌, arith, length-set}
use Rattle.std.specs.Prelude.{slice_index, slice_set, if◌then◌else◌}
use Rattle.std.proofs.lemmas.Bool.Decides.{nat_tests}
use Rattle.std.proofs.lemmas.Grind.{common_steps}
use Rattle.arena_laws.specs.declared.refusal.StoreRefusal.TheVariants.{Full}
use Rattle.arena_laws.specs.declared.standing.Standing.{Standing}
use Rattle.arena_laws.specs.Counts.{put, with_region, is_full}
use Rattle.arena_laws.specs.Holdings.{is_none, arena_base}
use Rattle.arena_laws.specs.Lawful.{Grants, makes, refuses, with_number, is_new_number}
use Rattle.arena_laws.specs.Laws.{Does, made}
use Rattle.cyc_arena.specs.Plain.{Plain, IsSound, IsInPage, Finds, IsLowest, used_up, count_of, owner_at, page_at, place_at, standing_at, left_of, counts_of}
use Rattle.cyc_arena.specs.Plain.{holdings_of}
use Rattle.region_runtime.proofs.Words.{index_at, index_else, index_set}
use Rattle.cyc_arena.proofs.Words.{standing_set, count_none, count_set}
use Rattle.cyc_arena.proofs.Pages.{free_less, page_found, none_free}
use Rattle.cyc_arena.proofs.Owners.{owner_nobody, owner_region, owner_below, owner_there, owner_elsewhere}

module _ (s : Plain) (p : ℕ) (standing : Standing) (sound : IsSound s) (found : Finds 0 s.owner (Some p)) (lowest : IsLowest 0 s.owner (Some p)) where
  abbrev pub after : Plain
  after = record s {
    owner = slice_set s.owner p (2 * (p + 1) + 1);
    used = slice_set s.used p 0;
    last = slice_set s.last (p + 1) (p + 1);
    standing = slice_set s.standing (p + 1) (Some standing);
    ever_used = used_up p s.ever_used;
  }

  not_headed : slice_index s.last (p + 1) ≡ 0
  not_headed = let h = sound.headed p in let e = found.1 in grind arith

  page_in : p < length s.used
  page_in = let n = sound.used_long in let b = found.0 in omega (arith, n, b)

  number_in : p + 1 < length s.last
  number_in = let n = sound.last_long in let b = found.0 in omega (arith, n, b)

  standing_in : p + 1 < length s.standing
  standing_in = let n = sound.standing_long in let b = found.0 in omega (arith, n, b)

  owner_by : (b e : Bool) (q : ℕ) → nat_lt q arena_base ≡ b → nat_eq (page_at q) p ≡ e →
      owner_at after.owner after.used s.slots q ≡ owner_at s.owner s.used s.slots q
  owner_by true e q b d = owner_below after.owner after.used s.slots q b ∙ sym (owner_below s.owner s.used s.slots q b)
  owner_by false true q b e =
      owner_there after.owner after.used s.slots q p (2 * (p + 1) + 1) 0 b e (grind (
        arith,
        nat_tests,
        common_steps,
        index_at s.owner p (2 *
            (p + 1) + 1) p found.0,
      ))
      (grind (arith, nat_tests, common_steps, index_at s.used p 0 p page_in))
      ∙ owner_region (p + 1) 0 p (place_at q) s.slots
      ∙ (grind (arith, nat_tests))
      ∙ sym (owner_nobody (slice_index s.used p) p (place_at q) s.slots)
      ∙ sym (owner_there s.owner s.used s.slots q p 0 (slice_index s.used p) b e found.1 refl)
  owner_by false false q b e = owner_elsewhere s.owner s.used s.slots p (2 * (p + 1) + 1) 0 q b e

  owner_kept : (q : ℕ) → owner_at after.owner after.used s.slots q ≡ owner_at s.owner s.used s.slots q
  owner_kept q = owner_by (nat_lt q arena_base) (nat_eq (page_at q) p) q refl refl

  left_by : (b : Bool) (h : ℕ) → nat_eq h (p + 1) ≡ b → left_of after.used (slice_index after.last h) ≡ (if b then 4096 else left_of s.used
      (slice_index s.last h))
  left_by true h e = left_at (slice_index after.last h) (grind (arith, nat_tests, common_steps, index_at s.last (p + 1) (p + 1) h number_in))
    where
      left_at : (r : ℕ) → r ≡ p + 1 → left_of after.used r ≡ 4096
      left_at zero e = absurd (omega (arith, e))
      left_at (suc k) e = let i = index_at s.used p 0 k page_in in grind (arith, nat_tests)
  left_by false h e =
      ap (left_of after.used) (index_else s.last (p + 1) (p + 1) h e) ∙ left_other (slice_index s.last h) (let n = sound.ended h p in let z = found.1 in
      grind (arith, nat_tests))
    where
      left_other : (r : ℕ) → nat_eq r (p + 1) ≡ false → left_of after.used r ≡ left_of s.used r
      left_other zero e = refl
      left_other (suc k) e = ap (λ n. 4096 - n) (index_else s.used p 0 k (grind (arith, nat_tests)))

  counted : counts_of after.ever_used after.owner after.used after.last s.slots ≡ with_region (p + 1) (counts_of s.ever_used s.owner s.used s.last s.slots)
  unfolding counts_of
  counted =
      let word = 2 * (p + 1) + 1 in
      let fresh : count_of word s.owner ≡ 0 = count_none word s.owner (λ q l. sound.lived (p + 1) q (omega arith) not_headed) in
      let f = free_less s p word sound found lowest (omega arith) in
      let taken : (h : ℕ) → count_of (2 * h + 1) after.owner ≡ put (p + 1) 1 (λ h. count_of (2 * h + 1) s.owner) h =
      (λ h. let n = count_set (2 * h + 1) s.owner p word found.0 in let e = found.1 in grind (arith, nat_tests)) in
      let class : (c : ℕ) → count_of (2 * c + 2) after.owner ≡ count_of (2 * c + 2) s.owner =
      (λ c. let n = count_set (2 * c + 2) s.owner p word found.0 in let e = found.1 in grind (arith, nat_tests)) in
      λ i. record {
        fresh = f.fresh i;
        given = f.given i;
        taken = λ h. taken h i;
        left = λ h. left_by (nat_eq h (p + 1)) h refl i;
        class_pages = λ c. class c i;
        slots = λ c. count_of (2 * c + 1) s.slots;
      }

  in_page : (u c : ℕ) → IsInPage s.owner u c → IsInPage after.owner u c
  in_page u c i = record {
    page = let e = i.page in let z = found.1 in grind (
      arith,
      nat_tests,
      common_steps,
      index_else s.owner p (2 * (p + 1) + 1)
          (u / 128),
    );
    place = i.place;
  }

  pub made_sound : IsSound after
  made_sound = record {
    payload = sound.payload ∙ ap (λ n. 4096 * n) (sym (length-set s.owner p (2 * (p + 1) + 1)));
    used_long = length-set s.used p 0 ∙ sound.used_long ∙ sym (length-set s.owner p (2 * (p + 1) + 1));
    last_long = length-set s.last (p + 1) (p + 1) ∙ sound.last_long ∙ ap (λ n. n + 1) (sym (length-set s.owner p (2 * (p + 1) + 1)));
    standing_long = length-set s.standing (p + 1) (Some standing) ∙ sound.standing_long ∙ ap (λ n. n + 1) (sym (length-set s.owner p (2 * (p + 1) + 1)));
    slots_long = sound.slots_long ∙ ap (λ n. 128 * n) (sym (length-set s.owner p (2 * (p + 1) + 1)));
    few = subst (λ n. n ≤ 4096) (sym (length-set s.owner p (2 * (p + 1) + 1))) sound.few;
    begun = (free_less s p (2 * (p + 1) + 1) sound found lowest (omega arith)).begun;
    unused = (free_less s p (2 * (p + 1) + 1) sound found lowest (omega arith)).unused;
    rounded = λ k. let n = sound.rounded k in let i = index_set s.used p 0 k page_in in grind (arith, nat_tests);
    within = λ k. let n = sound.within k in let i = index_set s.used p 0 k page_in in grind (arith, nat_tests);
    heap = standing_set s.standing (p + 1) (Some standing) 0 standing_in ∙ (let n : nat_eq 0 (p + 1) ≡ false = grind (arith, nat_tests) in rw n sound.heap);
    known = λ h b. known_by (nat_eq h (p + 1)) h b refl;
    headed = λ k l. let n = sound.headed k in let i = index_set s.last (p + 1) (p + 1) (k + 1) number_in in
        let o = index_set s.owner p (2 * (p + 1) + 1) k found.0 in let z = found.1 in grind (arith, nat_tests);
    lived = λ h q b l. let n = sound.lived h q in let i = index_set s.last (p + 1) (p + 1) h number_in in
        let o = index_set s.owner p (2 * (p + 1) + 1) q found.0 in grind (arith, nat_tests);
    ended = λ h q l. let n = sound.ended h q in let i = index_set s.last (p + 1) (p + 1) h number_in in
        let o = index_set s.owner p (2 * (p + 1) + 1) q found.0 in let z = found.1 in grind (arith, nat_tests);
    classes = λ q c l. sound.classes q c (let o = index_set s.owner p (2 * (p + 1) + 1) q found.0 in grind (arith, nat_tests));
    live = λ u c l. in_page u c (sound.live u c l);
    vacant = λ u c l. in_page u c (sound.vacant u c l);
    capacity = λ c. let n = sound.capacity c in
        let e : count_of (2 * c + 2) after.owner ≡ count_of (2 * c + 2) s.owner =
        (let n = count_set (2 * c + 2) s.owner p (2 * (p + 1) + 1) found.0 in let e = found.1 in grind (arith, nat_tests)) in
        n ∙ ap (λ k. k * (4096 / c)) (sym e);
  }
    where
      known_by : (b : Bool) (h : ℕ) → 0 < h → nat_eq h (p + 1) ≡ b → is_none (standing_at after.standing h) ≡ nat_eq (slice_index after.last h) 0
      known_by true h l e =
          let i = index_at s.last (p + 1) (p + 1) h number_in e in
          ap is_none (standing_set s.standing (p + 1) (Some standing) h standing_in ∙ ap (λ t. if t then Some standing else standing_at s.standing h) e)
          ∙ grind (arith, nat_tests)
      known_by false h l e =
          let i = index_else s.last (p + 1) (p + 1) h e in
          ap is_none (standing_set s.standing (p + 1) (Some standing) h standing_in ∙ ap (λ t. if t then Some standing else standing_at s.standing h) e)
          ∙ sound.known h l ∙ ap (λ n. nat_eq n 0) (sym i)

  -- the new number isn't live
  is_new : is_new_number (holdings_of s) (p + 1) ≡ true
  is_new = let h = not_headed in let k = sound.known (p + 1) (omega arith) in grind (arith, nat_tests)

  pub made_holds : holdings_of after ≡ with_number (p + 1) standing (holdings_of s)
  made_holds = λ i. record {
    pages = length-set s.owner p (2 * (p + 1) + 1) i;
    standing = λ q. standing_set s.standing (p + 1) (Some standing) q standing_in i;
    owner = λ q. owner_kept q i;
    counts = counted i;
  }

  pub not_full : is_full (holdings_of s).counts ≡ false
  unfolding counts_of
  not_full = page_found s p sound found

  pub made_does : Does (Ok (p + 1)) (holdings_of after) (made standing (Grants (p + 1)) (holdings_of s))
  made_does =
      subst (λ t. Does (Ok (p + 1)) (holdings_of after) (if t then refuses Full (holdings_of s) else makes standing (Grants (p + 1)) (holdings_of s)))
      (sym not_full)
      (subst (λ t. Does (Ok (p + 1)) (holdings_of after) (if t then record {
        says = Ok (p + 1);
        after = with_number (p + 1) standing
            (holdings_of s);
      } else refuses Full (holdings_of s)))
      (sym is_new) (record { says = refl; holds = made_holds }))

  -- with the count as it was read
  pub made_sound_as : (n : ℕ) → n ≡ used_up p s.ever_used → IsSound (record after { ever_used = n })
  made_sound_as n e = subst (λ n. IsSound (record after { ever_used = n })) (sym e) made_sound

  pub made_does_as : (n : ℕ) → n ≡ used_up p s.ever_used →
      Does (Ok (p + 1)) (holdings_of (record after { ever_used = n })) (made standing (Grants (p + 1)) (holdings_of s))
  made_does_as n e =
      subst (λ n. Does (Ok (p + 1)) (holdings_of (record after { ever_used = n })) (made standing (Grants (p + 1)) (holdings_of s))) (sym e) made_does

-- no page is free
pub all_taken : (s : Plain) → IsSound s → Finds 0 s.owner None → is_full (holdings_of s).counts ≡ true
unfolding counts_of
all_taken s sound f = none_free s sound f
