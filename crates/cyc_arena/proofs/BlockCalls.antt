-- What a call for a block does, from what it read.
use Rattle.std.proofs.Common.{◌≡◌, ℕ, ◌+◌, ◌-◌, ◌*◌, ◌<◌, ◌≤◌, true, false, length, Some, None, Ok, sym, subst, arith, get_or}
use Rattle.std.specs.Prelude.{slice_index, slice_set}
use Rattle.arena_laws.specs.Counts.{room_of}
use Rattle.arena_laws.specs.Holdings.{arena_base}
use Rattle.arena_laws.specs.Lawful.{Grants, takes_blocks}
use Rattle.arena_laws.specs.Laws.{Does, is_block_refused, region_alloc}
use Rattle.cyc_arena.specs.Plain.{Plain, IsSound, Finds, IsLowest, used_up, standing_at, left_of, holdings_of}
use Rattle.region_runtime.proofs.Placed.{IsRoom, is_room, is_short}
use Rattle.cyc_arena.proofs.Placed.{last_read, last_in, last_has, page_in, last_sound, last_does, last_not_refused}
use Rattle.cyc_arena.proofs.Placed.{new_sound, new_does, new_not_refused, none_refused}

-- a block was cut from the last page
pub record IsCutFrom (s after : Plain) (h bytes r at : ℕ) : Type 0 where
  pub page : r - 1 < length s.used
  pub low : at < 4294967296
  pub sound : IsSound after
  pub does : Does (Ok at) (holdings_of after) (region_alloc h bytes (Grants at) (holdings_of s))
  pub free : false ≡ is_block_refused h bytes (holdings_of s)

-- a page was taken for a block
pub record IsTakenFor (s after : Plain) (h bytes at : ℕ) : Type 0 where
  pub sound : IsSound after
  pub does : Does (Ok at) (holdings_of after) (region_alloc h bytes (Grants at) (holdings_of s))
  pub free : false ≡ is_block_refused h bytes (holdings_of s)

module _ (s : Plain) (h bytes room r left : ℕ) (sound : IsSound s) (takes : takes_blocks h (standing_at s.standing h) ≡ true) (short : bytes ≤ 4096)
    (rounded : room ≡ room_of bytes)
    (read : r ≡ get_or s.last h r) where
  room_is : IsRoom room
  room_is = is_room bytes room short rounded

  read_is : slice_index s.last h ≡ r
  read_is = last_read s h room sound takes room_is.eights room_is.most r read

  pub last_place : r ≤ length s.used
  last_place = last_in s h room sound takes room_is.eights room_is.most r read_is

  pub cut : left ≡ left_of s.used r → room ≤ left →
      IsCutFrom s (record s { used = slice_set s.used (r - 1) (4096 - left + room) }) h bytes r (arena_base + 4096 * (r - 1) + (4096 - left))
  cut d l =
      let has = last_has s h room sound takes room_is.eights room_is.most room_is.some r left read_is d l in
      let page = page_in s h room sound takes room_is.eights room_is.most (r - 1) (4096 - left) has.last has.used has.fits in
      let n = sound.used_long in let f = sound.few in let a = room_is.some in let b = has.fits in
      record {
        page = omega (arith, page, n);
        low = omega (arith, page, f, a, b);
        sound = last_sound s h room sound takes room_is.eights room_is.most (r - 1) (4096 - left) has.last has.used has.fits;
        does = last_does s h room sound takes room_is.eights room_is.most (r - 1) (4096 - left) has.last has.used has.fits bytes rounded (is_short bytes short);
        free = sym (last_not_refused s h room sound takes room_is.eights room_is.most (r - 1) (4096 - left) has.last has.used has.fits bytes rounded
            (is_short bytes short));
      }

  needs : left ≡ left_of s.used r → left < room → left_of s.used (slice_index s.last h) < room
  needs d l = subst (λ k. left_of s.used k < room) (sym read_is) (subst (λ n. n < room) d l)

  pub taken : (p : ℕ) → left ≡ left_of s.used r → left < room → Finds 0 s.owner (Some p) → IsLowest 0 s.owner (Some p) →
      IsTakenFor s (record s {
        owner = slice_set s.owner p (2 * h + 1);
        used = slice_set s.used p room;
        last = slice_set s.last h (p + 1);
        ever_used = used_up p s.ever_used;
      }) h bytes
      (arena_base + 4096 * p)
  taken p d l f w = record {
    sound = new_sound s h room sound takes room_is.eights room_is.most (needs d l) p f w;
    does = new_does s h room sound takes room_is.eights room_is.most (needs d l) p f w bytes rounded (is_short bytes short);
    free = sym (new_not_refused s h room sound takes room_is.eights room_is.most (needs d l) p f w bytes rounded (is_short bytes short));
  }

  -- with the count as it was read
  pub taken_as : (p : ℕ) → left ≡ left_of s.used r → left < room → Finds 0 s.owner (Some p) → IsLowest 0 s.owner (Some p) → (n : ℕ) →
      n ≡ used_up p s.ever_used →
      IsTakenFor s (record s { owner = slice_set s.owner p (2 * h + 1); used = slice_set s.used p room; last = slice_set s.last h (p + 1); ever_used = n }) h
      bytes (arena_base + 4096 * p)
  taken_as p d l f w n e =
      subst (λ n. IsTakenFor s (record s {
        owner = slice_set s.owner p (2 * h + 1);
        used = slice_set s.used p room;
        last = slice_set s.last h (p + 1);
        ever_used = n;
      }) h bytes (arena_base + 4096 * p)) (sym e) (taken p d l f w)

  pub refused : left ≡ left_of s.used r → left < room → Finds 0 s.owner None → true ≡ is_block_refused h bytes (holdings_of s)
  refused d l f = sym (none_refused s h room sound takes room_is.eights room_is.most (needs d l) f bytes rounded)
