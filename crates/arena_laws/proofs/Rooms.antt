-- Each call that takes or frees a block keeps the agreement of the counts by births with the store's own.
use Rattle.std.proofs.Common.{◌≡◌, ℕ, zero, suc, ◌+◌, ◌-◌, ◌*◌, ◌/◌, ◌%◌, ◌<◌, Bool, true, false, Option, Some, None, Result, Ok, Err, nat_eq, nat_le, nat_lt}
use Rattle.std.proofs.Common.{refl, sym, ap, subst, ◌∙◌, arith}
use Rattle.std.specs.Prelude.{◌&&◌, ◌||◌, if◌then◌else◌}
use Rattle.std.proofs.lemmas.Bool.Decides.{nat_tests}
use Rattle.arena_laws.specs.declared.owner.Owner.{Owner}
use Rattle.arena_laws.specs.declared.owner.Owner.TheVariants.{Region, Alone}
use Rattle.arena_laws.specs.declared.refusal.StoreRefusal.{StoreRefusal}
use Rattle.arena_laws.specs.declared.refusal.StoreRefusal.TheVariants.{Full, BadHandle, NotABlock}
use Rattle.arena_laws.specs.Counts.{Counts, put, room_of, class_of, with_block, with_slot, without_slot, block_needs_page, slot_needs_page, is_too_long}
use Rattle.arena_laws.specs.Counts.{is_too_long_alone, is_large, run_of, with_run, with_single, is_full, is_full_for_block, is_full_for_slot}
use Rattle.arena_laws.specs.Holdings.{Holdings, arena_base, is_none}
use Rattle.arena_laws.specs.Lawful.{Grants, Refuses, refuses, gives_block, gives_alone, takes_blocks, is_lawful_room, is_clear, is_in_room, owns}
use Rattle.arena_laws.specs.Lawful.{with_region_block, with_alone, without_alone, is_alone, frees_alone, unique_free}
use Rattle.arena_laws.specs.Laws.{Does, is_block_refused, region_alloc, unique_alloc}
use Rattle.arena_laws.specs.Pages.{ByBirth}
use Rattle.arena_laws.specs.Calls.{Names, Agree}
use Rattle.arena_laws.proofs.Births.{Gives, one_less_agrees}

-- ---- what is in a clear room isn't live

pub and_left : (a b : Bool) → (a && b) ≡ true → a ≡ true
and_left true b e = refl
and_left false b e = e

pub and_right : (a b : Bool) → (a && b) ≡ true → b ≡ true
and_right true b e = e
and_right false b e = absurd (cc)

clear_at : (owner : ℕ → Option Owner) (at n q : ℕ) → is_clear owner at n ≡ true → is_in_room at n q ≡ true → is_none (owner q) ≡ true
clear_at owner at zero q c r = absurd (let a = and_left (nat_le at q) (nat_lt q (at + 0)) r in let b = and_right (nat_le at q) (nat_lt q (at + 0)) r in
    grind (arith, nat_tests))
clear_at owner at (suc n) q c r = by_last (nat_eq q (at + n)) refl (λ l. clear_at owner at n q (and_right (is_none (owner (at + n))) (is_clear owner at n) c) l)
  where
    by_last : (t : Bool) → nat_eq q (at + n) ≡ t → (is_in_room at n q ≡ true → is_none (owner q) ≡ true) → is_none (owner q) ≡ true
    by_last true e f = let same : at + n ≡ q = grind (arith, nat_tests) in subst (λ q. is_none (owner q) ≡ true) same (and_left (is_none (owner (at + n)))
        (is_clear owner at n) c)
    by_last false e f = f (let a = and_left (nat_le at q) (nat_lt q (at + suc n)) r in let b = and_right (nat_le at q) (nat_lt q (at + suc n)) r in
        grind (arith, nat_tests))

lawful_clear : (s : Holdings) (at room : ℕ) → is_lawful_room s at room ≡ true → is_clear s.owner at room ≡ true
lawful_clear s at room e =
    let inside = nat_le (at + room) (arena_base + s.pages * 4096) in
    and_right inside (is_clear s.owner at room)
    (and_right (nat_le arena_base at) (inside && is_clear s.owner at room)
    (and_right (nat_eq (at % 8) 0) (nat_le arena_base at && (inside && is_clear s.owner at room)) e))

-- a live address is outside a lawful room
pub outside : (s : Holdings) (at room q : ℕ) (who : Owner) → is_lawful_room s at room ≡ true → s.owner q ≡ Some who → is_in_room at room q ≡ false
outside s at room q who l e = by_room (is_in_room at room q) refl
  where
    by_room : (t : Bool) → is_in_room at room q ≡ t → t ≡ false
    by_room false r = refl
    by_room true r = absurd (let n = clear_at s.owner at room q (lawful_clear s at room l) r in let x : is_none (s.owner q) ≡ false = ap is_none e in cc)

-- ---- what a growing call left

pub block_full : (h bytes : ℕ) (s after : Holdings) → Does (Err Full) after (region_alloc h bytes Refuses s) → after ≡ s
block_full h bytes s after d = by_short (is_block_refused h bytes s) refl
  where
    by_long : (t : Bool) → Does (Err Full) after (if t then refuses Full s else refuses Full s) → after ≡ s
    by_long true d = d.holds
    by_long false d = d.holds

    by_takes : (t : Bool) → Does (Err Full) after (if t then (if is_too_long bytes then refuses Full s else refuses Full s) else refuses BadHandle s) →
        after ≡ s
    by_takes true d = by_long (is_too_long bytes) d
    by_takes false d = d.holds

    by_short : (t : Bool) → is_block_refused h bytes s ≡ t → after ≡ s
    by_short true e = (rw e at d).holds
    by_short false e = by_takes (takes_blocks h (s.standing h)) (rw e at d)

pub alone_full : (bytes : ℕ) (s after : Holdings) → Does (Err Full) after (unique_alloc bytes Refuses s) → after ≡ s
alone_full bytes s after d = by_short (is_full_for_slot bytes s.counts) refl
  where
    by_long : (t : Bool) → Does (Err Full) after (if t then refuses Full s else refuses Full s) → after ≡ s
    by_long true d = d.holds
    by_long false d = d.holds

    by_short : (t : Bool) → is_full_for_slot bytes s.counts ≡ t → after ≡ s
    by_short true e = (rw e at d).holds
    by_short false e = by_long (is_too_long_alone bytes) (rw e at d)

pub record IsPlaced (h room at : ℕ) (s after : Holdings) : Type 0 where
  pub lawful : is_lawful_room s at room ≡ true
  pub left : after ≡ with_region_block h at room s

pub block_placed : (h bytes at : ℕ) (s after : Holdings) → Does (Ok at) after (region_alloc h bytes (Grants at) s) → IsPlaced h (room_of bytes) at s after
block_placed h bytes at s after d = by_short (is_block_refused h bytes s) refl
  where
    by_room : (t : Bool) → is_lawful_room s at (room_of bytes) ≡ t →
        Does (Ok at) after (if t then record { says = Ok at; after = with_region_block h at (room_of bytes) s } else refuses Full s) →
        IsPlaced h (room_of bytes) at s after
    by_room true e d = record { lawful = e; left = d.holds }
    by_room false e d = absurd (let x = d.says in cc)

    by_long : (t : Bool) → Does (Ok at) after (if t then refuses Full s else gives_block h (room_of bytes) (Grants at) s) →
        IsPlaced h (room_of bytes) at s after
    by_long true d = absurd (let x = d.says in cc)
    by_long false d = by_room (is_lawful_room s at (room_of bytes)) refl d

    by_takes : (t : Bool) → Does (Ok at) after (if t then (if is_too_long bytes then refuses Full s else gives_block h (room_of bytes)
        (Grants at) s) else refuses BadHandle s) →
        IsPlaced h (room_of bytes) at s after
    by_takes true d = by_long (is_too_long bytes) d
    by_takes false d = absurd (let x = d.says in cc)

    by_short : (t : Bool) → is_block_refused h bytes s ≡ t → IsPlaced h (room_of bytes) at s after
    by_short true e = absurd (let x = (rw e at d).says in cc)
    by_short false e = by_takes (takes_blocks h (s.standing h)) (rw e at d)

pub record IsAlonePlaced (room at : ℕ) (s after : Holdings) : Type 0 where
  pub lawful : is_lawful_room s at room ≡ true
  pub left : after ≡ with_alone at room s

pub alone_placed : (bytes at : ℕ) (s after : Holdings) → Does (Ok at) after (unique_alloc bytes (Grants at) s) → IsAlonePlaced (class_of bytes) at s after
alone_placed bytes at s after d = by_short (is_full_for_slot bytes s.counts) refl
  where
    by_room : (t : Bool) → is_lawful_room s at (class_of bytes) ≡ t →
        Does (Ok at) after (if t then record { says = Ok at; after = with_alone at (class_of bytes) s } else refuses Full s) →
        IsAlonePlaced (class_of bytes) at s after
    by_room true e d = record { lawful = e; left = d.holds }
    by_room false e d = absurd (let x = d.says in cc)

    by_long : (t : Bool) → Does (Ok at) after (if t then refuses Full s else gives_alone (class_of bytes) (Grants at) s) →
        IsAlonePlaced (class_of bytes) at s after
    by_long true d = absurd (let x = d.says in cc)
    by_long false d = by_room (is_lawful_room s at (class_of bytes)) refl d

    by_short : (t : Bool) → is_full_for_slot bytes s.counts ≡ t → IsAlonePlaced (class_of bytes) at s after
    by_short true e = absurd (let x = (rw e at d).says in cc)
    by_short false e = by_long (is_too_long_alone bytes) (rw e at d)

-- ---- a block of a region

module _ (names : Names) (b : ByBirth) (s : Holdings) (d h room at : ℕ) (is : names.number d ≡ Some h) (law : is_lawful_room s at room ≡ true)
    (a : Agree names b s) where
  same_test : (e k : ℕ) → names.number e ≡ Some k → nat_eq k h ≡ nat_eq e d
  same_test e k f = by_same (nat_eq k h) refl
    where
      by_same : (t : Bool) → nat_eq k h ≡ t → t ≡ nat_eq e d
      by_same true g = let same : k ≡ h = grind (arith, nat_tests) in let x = a.apart e d k f (is ∙ ap Some (sym same)) in grind (arith, nat_tests)
      by_same false g = by_birth (nat_eq e d) refl
        where
          by_birth : (t : Bool) → nat_eq e d ≡ t → false ≡ t
          by_birth false x = refl
          by_birth true x =
              let same : e ≡ d = grind (arith, nat_tests) in
              let y : Some k ≡ Some h = sym f ∙ ap names.number same ∙ is in let z : k ≡ h = cc in absurd (grind (arith, nat_tests))

  abbrev roomed : (ℕ → Counts → Counts) → Holdings
  roomed f = record s { owner = owns at room (Region h) s.owner; counts = f h s.counts }

  single_by : (t : Bool) → block_needs_page h room s.counts ≡ t → block_needs_page d room b.counts ≡ t →
      Agree names (record b { counts = with_single d room b.counts }) (roomed (λ h c. with_single h room c))
  single_by true x y = rw (x, y) (record {
    fresh = (one_less_agrees names b s a).0;
    given = (one_less_agrees names b s a).1;
    taken = λ e k f. let t = a.taken e k f in let o = same_test e k f in let u = a.taken d h is in grind (arith, nat_tests);
    left = λ e k f. let t = a.left e k f in let o = same_test e k f in grind (arith, nat_tests);
    class_pages = a.class_pages;
    slots = a.slots;
    apart = a.apart;
    apart_blocks = a.apart_blocks;
    heap = a.heap;
    no_heap = a.no_heap;
    live = a.live;
    blocks = λ e q f. rw (outside s at room q (Alone q (b.class e)) law (a.blocks e q f)) (a.blocks e q f);
    unborn = a.unborn;
    unborn_blocks = a.unborn_blocks;
  })
  single_by false x y = rw (x, y) (record {
    fresh = a.fresh;
    given = a.given;
    taken = a.taken;
    left = λ e k f. let t = a.left e k f in let o = same_test e k f in let u = a.left d h is in grind (arith, nat_tests);
    class_pages = a.class_pages;
    slots = a.slots;
    apart = a.apart;
    apart_blocks = a.apart_blocks;
    heap = a.heap;
    no_heap = a.no_heap;
    live = a.live;
    blocks = λ e q f. rw (outside s at room q (Alone q (b.class e)) law (a.blocks e q f)) (a.blocks e q f);
    unborn = a.unborn;
    unborn_blocks = a.unborn_blocks;
  })

  run_agrees : Agree names (record b { counts = with_run d (run_of room) b.counts }) (roomed (λ h c. with_run h (run_of room) c))
  run_agrees = record {
    fresh = ap (λ n. n - run_of room) a.fresh;
    given = a.given;
    taken = λ e k f. let t = a.taken e k f in let o = same_test e k f in let u = a.taken d h is in grind (arith, nat_tests);
    left = a.left;
    class_pages = a.class_pages;
    slots = a.slots;
    apart = a.apart;
    apart_blocks = a.apart_blocks;
    heap = a.heap;
    no_heap = a.no_heap;
    live = a.live;
    blocks = λ e q f. rw (outside s at room q (Alone q (b.class e)) law (a.blocks e q f)) (a.blocks e q f);
    unborn = a.unborn;
    unborn_blocks = a.unborn_blocks;
  }

  block_by : (large : Bool) → is_large room ≡ large → Agree names (record b { counts = with_block d room b.counts }) (with_region_block h at room s)
  block_by true x = rw x run_agrees
  block_by false x = rw x (single_by (block_needs_page h room s.counts) refl (ap (λ n. nat_lt n room) (sym (a.left d h is))))

  pub block_agrees : Agree names (record b { counts = with_block d room b.counts }) (with_region_block h at room s)
  block_agrees = block_by (is_large room) refl

-- no page is free in the count by births where none is in the store's
pub full_same : (names : Names) (b : ByBirth) (s : Holdings) → Agree names b s → is_full s.counts ≡ is_full b.counts
full_same names b s a = ap (λ n. nat_eq n 0 && nat_eq s.counts.given 0) a.fresh ∙ ap (λ n. nat_eq b.counts.fresh 0 && nat_eq n 0) a.given

-- the count by births needs a page or a run for a block where the store's does
pub same_block_full : (names : Names) (b : ByBirth) (s : Holdings) (d h bytes : ℕ) → names.number d ≡ Some h → Agree names b s →
    is_full_for_block h bytes s.counts ≡ is_full_for_block d bytes b.counts
same_block_full names b s d h bytes is a =
    ap (λ n. is_too_long bytes || (if is_large (room_of bytes) then nat_lt n (run_of (room_of bytes)) else block_needs_page h (room_of bytes) s.counts &&
    is_full s.counts)) a.fresh
    ∙ ap (λ n. is_too_long bytes || (if is_large (room_of bytes) then nat_lt b.counts.fresh (run_of (room_of bytes)) else nat_lt n (room_of bytes) &&
    is_full s.counts)) (a.left d h is)
    ∙ ap (λ t. is_too_long bytes || (if is_large (room_of bytes) then nat_lt b.counts.fresh (run_of (room_of bytes)) else nat_lt (b.counts.left d)
    (room_of bytes) && t)) (full_same names b s a)

-- ---- a unique block is born

pub same_slot_full : (names : Names) (b : ByBirth) (s : Holdings) (bytes : ℕ) → Agree names b s →
    is_full_for_slot bytes s.counts ≡ is_full_for_slot bytes b.counts
same_slot_full names b s bytes a =
    ap (λ n. is_too_long_alone bytes || (nat_eq n (s.counts.class_pages (class_of bytes) * (4096 / class_of bytes)) && is_full s.counts))
    (a.slots (class_of bytes))
    ∙ ap (λ n. is_too_long_alone bytes || (nat_eq (b.counts.slots (class_of bytes)) (n * (4096 / class_of bytes)) && is_full s.counts)) (a.class_pages
    (class_of bytes))
    ∙ ap (λ t. is_too_long_alone bytes || (nat_eq (b.counts.slots (class_of bytes)) (b.counts.class_pages (class_of bytes) *
    (4096 / class_of bytes)) && t)) (full_same names b s a)

module _ (names : Names) (b : ByBirth) (s : Holdings) (c at : ℕ) (some : 0 < c) (law : is_lawful_room s at c ≡ true) (a : Agree names b s) where
  abbrev pub alone_names : Names
  alone_names = record names { address = put (suc b.births) (Some at) names.address }

  abbrev pub alone_born : ByBirth
  alone_born = record { births = suc b.births; counts = with_slot c b.counts; class = put (suc b.births) c b.class }

  here : is_in_room at c at ≡ true
  here = grind (arith, nat_tests)

  -- another block's address isn't this one's
  other_block : (e q : ℕ) → names.address e ≡ Some q → nat_eq q at ≡ false
  other_block e q f = by_same (nat_eq q at) refl
    where
      by_same : (t : Bool) → nat_eq q at ≡ t → t ≡ false
      by_same false g = refl
      by_same true g =
          let same : q ≡ at = grind (arith, nat_tests) in
          absurd (let o = outside s at c q (Alone q (b.class e)) law (a.blocks e q f) in let h = here in
          let h2 : is_in_room at c q ≡ true = subst (λ q. is_in_room at c q ≡ true) (sym same) h in cc)

  name_by : (P : ℕ → ℕ → Type 0) → P (suc b.births) at → ((e q : ℕ) → nat_eq e (suc b.births) ≡ false → names.address e ≡ Some q → P e q) →
      (e q : ℕ) → put (suc b.births) (Some at) names.address e ≡ Some q → P e q
  name_by P new old e q f = by_same (nat_eq e (suc b.births)) refl
    where
      by_same : (t : Bool) → nat_eq e (suc b.births) ≡ t → P e q
      by_same true g =
          let x : Some at ≡ Some q = ap (λ t. if t then Some at else names.address e) (sym g) ∙ f in let same : at ≡ q = cc in
          let birth : suc b.births ≡ e = grind (arith, nat_tests) in
          subst (λ q. P e q) same (subst (λ e. P e at) birth new)
      by_same false g = old e q g (ap (λ t. if t then Some at else names.address e) (sym g) ∙ f)

  blocks_born : (e q : ℕ) → put (suc b.births) (Some at) names.address e ≡ Some q →
      owns at c (Alone at c) s.owner q ≡ Some (Alone q (put (suc b.births) c b.class e))
  blocks_born = name_by (λ e q. owns at c (Alone at c) s.owner q ≡ Some (Alone q (put (suc b.births) c b.class e)))
      (let n : nat_eq (suc b.births) (suc b.births) ≡ true = grind (arith, nat_tests) in rw (here, n) refl)
      (λ e q g f. rw (outside s at c q (Alone q (b.class e)) law (a.blocks e q f), g) (a.blocks e q f))

  apart_born : (e f q : ℕ) → put (suc b.births) (Some at) names.address e ≡ Some q → put (suc b.births) (Some at) names.address f ≡ Some q → e ≡ f
  apart_born e f q x y =
      name_by (λ e q. put (suc b.births) (Some at) names.address f ≡ Some q → e ≡ f)
      (λ y. name_by (λ f q. q ≡ at → suc b.births ≡ f) (λ z. refl) (λ f q g x z. absurd (let o = other_block f q x in grind (arith, nat_tests))) f at y refl)
      (λ e q g x y. name_by (λ f k. k ≡ q → e ≡ f) (λ z. absurd (let o = other_block e q x in grind (arith, nat_tests)))
      (λ f k g2 y z. a.apart_blocks e f q x (y ∙ ap Some z)) f q y refl)
      e q x y

  unborn_born : (e : ℕ) → suc b.births < e → put (suc b.births) (Some at) names.address e ≡ None
  unborn_born e l = let n : nat_eq e (suc b.births) ≡ false = grind (arith, nat_tests) in rw n (a.unborn_blocks e (omega (arith, l)))

  alone_by : (t : Bool) → slot_needs_page c s.counts ≡ t → slot_needs_page c b.counts ≡ t → Agree alone_names alone_born (with_alone at c s)
  alone_by true x y = rw (x, y) (record {
    fresh = (one_less_agrees names b s a).0;
    given = (one_less_agrees names b s a).1;
    taken = a.taken;
    left = a.left;
    class_pages = λ k. let f = a.class_pages k in let g = a.class_pages c in grind (arith, nat_tests);
    slots = λ k. let f = a.slots k in let g = a.slots c in grind (arith, nat_tests);
    apart = a.apart;
    apart_blocks = apart_born;
    heap = a.heap;
    no_heap = a.no_heap;
    live = a.live;
    blocks = blocks_born;
    unborn = λ e l. a.unborn e (omega (arith, l));
    unborn_blocks = unborn_born;
  })
  alone_by false x y = rw (x, y) (record {
    fresh = a.fresh;
    given = a.given;
    taken = a.taken;
    left = a.left;
    class_pages = a.class_pages;
    slots = λ k. let f = a.slots k in let g = a.slots c in grind (arith, nat_tests);
    apart = a.apart;
    apart_blocks = apart_born;
    heap = a.heap;
    no_heap = a.no_heap;
    live = a.live;
    blocks = blocks_born;
    unborn = λ e l. a.unborn e (omega (arith, l));
    unborn_blocks = unborn_born;
  })

  pub alone_agrees : Agree alone_names alone_born (with_alone at c s)
  alone_agrees = alone_by (slot_needs_page c s.counts) refl
      (ap (λ n. nat_eq n (b.counts.class_pages c * (4096 / c))) (sym (a.slots c))
      ∙ ap (λ n. nat_eq (s.counts.slots c) (n * (4096 / c))) (sym (a.class_pages c)))

-- ---- a unique block is freed

module _ (names : Names) (b : ByBirth) (s : Holdings) (d at : ℕ) (is : names.address d ≡ Some at) (a : Agree names b s) where
  pub alone_freed : (result : Result ℕ StoreRefusal) (after : Holdings) → Does result after (unique_free at s) →
      Gives 0 (without_alone at (b.class d) s) result after
  alone_freed result after does =
      let same : nat_eq at at ≡ true = grind (arith, nat_tests) in
      let e : Does result after (frees_alone at (Some (Alone at (b.class d))) s) = subst (λ o. Does result after (frees_alone at o s))
      (a.blocks d at is) does in
      let f : Does result after (if true then record { says = Ok 0; after = without_alone at (b.class d) s } else refuses NotABlock s) =
      subst (λ t. Does result after (if t then record { says = Ok 0; after = without_alone at (b.class d) s } else refuses NotABlock s)) same e in
      record { says = f.says; holds = f.holds }

  kept_block : (P : ℕ → ℕ → Type 0) → ((e q : ℕ) → nat_eq e d ≡ false → names.address e ≡ Some q → P e q) → (e q : ℕ) → put d None names.address e ≡ Some q →
      P e q
  kept_block P old e q f = by_same (nat_eq e d) refl
    where
      by_same : (t : Bool) → nat_eq e d ≡ t → P e q
      by_same true g = absurd (let x : None ≡ Some q = ap (λ t. if t then None else names.address e) (sym g) ∙ f in cc)
      by_same false g = old e q g (ap (λ t. if t then None else names.address e) (sym g) ∙ f)

  other_address : (e q : ℕ) → nat_eq e d ≡ false → names.address e ≡ Some q → nat_eq q at ≡ false
  other_address e q g f = by_same (nat_eq q at) refl
    where
      by_same : (t : Bool) → nat_eq q at ≡ t → t ≡ false
      by_same false x = refl
      by_same true x = let same : q ≡ at = grind (arith, nat_tests) in let y = a.apart_blocks e d q f (is ∙ ap Some (sym same)) in
          absurd (grind (arith, nat_tests))

  pub alone_freed_agrees : Agree (record names { address = put d None names.address }) (record b { counts = without_slot (b.class d) b.counts })
      (without_alone at (b.class d) s)
  alone_freed_agrees = record {
    fresh = a.fresh;
    given = a.given;
    taken = a.taken;
    left = a.left;
    class_pages = a.class_pages;
    slots = λ k. let f = a.slots k in let g = a.slots (b.class d) in grind (arith, nat_tests);
    apart = a.apart;
    apart_blocks = λ e f q x y. kept_block (λ e q. put d None names.address f ≡ Some q → e ≡ f) (λ e q g x y. kept_block (λ f q. names.address e ≡ Some q →
        e ≡ f) (λ f q g y x. a.apart_blocks e f q x y) f q y x) e q x y;
    heap = a.heap;
    no_heap = a.no_heap;
    live = a.live;
    blocks = kept_block (λ e q. (if is_alone at (s.owner q) then None else s.owner q) ≡ Some (Alone q (b.class e)))
        (λ e q g f. let own = a.blocks e q f in
        let n : is_alone at (s.owner q) ≡ false = ap (is_alone at) own ∙ other_address e q g f in rw n own);
    unborn = a.unborn;
    unborn_blocks = λ e l. unborn_by (nat_eq e d) e l;
  }
    where
      unborn_by : (t : Bool) (e : ℕ) → b.births < e → (if t then None else names.address e) ≡ None
      unborn_by true e l = refl
      unborn_by false e l = a.unborn_blocks e l
