-- The pool's calls do as the laws say with unique blocks beside.
use Rattle.std.proofs.Common.{
  ◌≡◌,
  ℕ,
  zero,
  suc,
  ◌+◌,
  ◌-◌,
  ◌*◌,
  ◌%◌,
  Bool,
  true,
  false,
  Option,
  Some,
  None,
  Result,
  Ok,
  Err,
  nat_eq,
  nat_lt,
  refl,
  sym,
  ap,
  subst,
  ◌∙◌,
  arith,
}
use Rattle.std.specs.Prelude.{◌&&◌, nat_le, if◌then◌else◌}
use Rattle.std.proofs.lemmas.Bool.Decides.{nat_tests}
use Rattle.arena_laws.specs.declared.owner.Owner.{Owner}
use Rattle.arena_laws.specs.declared.owner.Owner.TheVariants.{Region, Alone}
use Rattle.arena_laws.specs.declared.refusal.StoreRefusal.{StoreRefusal}
use Rattle.arena_laws.specs.declared.refusal.StoreRefusal.TheVariants.{Full, BadHandle, NotABlock, BadKey, Open, NotOpen, Memory}
use Rattle.arena_laws.specs.declared.standing.Standing.{Standing}
use Rattle.arena_laws.specs.declared.standing.Standing.TheVariants.{Lexical, Opened, Closed}
use Rattle.arena_laws.specs.Counts.{put, room_of, block_needs_page, is_too_long, is_large, run_of, with_run, one_less}
use Rattle.arena_laws.specs.Holdings.{Holdings, arena_base, is_none}
use Rattle.arena_laws.specs.Lawful.{
  Answer,
  Grants,
  Refuses,
  Lacks,
  Done,
  refuses,
  makes,
  frees_region,
  takes_blocks,
  gives_block,
  is_clear,
  is_in_room,
  is_lawful_room,
  is_new_number,
  is_of,
  owns,
  with_number,
  with_region_block,
  without_blocks,
  without_number,
}
use Rattle.arena_laws.specs.Lawful as lawful
use Rattle.arena_laws.specs.Laws.{Does, answer_of, is_block_refused, refused_by, region_alloc}
use Rattle.arena_laws.proofs.Rooms.{block_placed}
use Rattle.unique_blocks.specs.Slots.{Slots, alone_at}
use Rattle.unique_blocks.specs.Blocks.{either_owner, joined}

-- what a call does, with the slots beside
abbrev pub lifted : Slots → Done → Done
lifted s d = record { says = d.says; after = joined s d.after }

pub does_lifted : (s : Slots) (r : Result ℕ StoreRefusal) (after : Holdings) (d e : Done) → e ≡ lifted s d → Does r after d → Does r (joined s after) e
does_lifted s r after d e same does =
    subst (Does r (joined s after)) (sym same) (record { says = does.says; holds = ap (joined s) does.holds })

lift_if : (s : Slots) (t : Bool) (x y : Done) → (if t then lifted s x else lifted s y) ≡ lifted s (if t then x else y)
lift_if s true x y = refl
lift_if s false x y = refl

-- ---- a region is made

module _ (s : Slots) (h : Holdings) where
  -- ---- a region is freed
  module _ (apart : (q : ℕ) → is_none (h.owner q) ≡ false → alone_at s q ≡ None) (alones : (q r : ℕ) → is_of r (alone_at s q) ≡ false) where
    freed_owner : (n q : ℕ) → without_blocks n (λ q. either_owner (h.owner q) (alone_at s q)) q ≡ either_owner (without_blocks n h.owner q) (alone_at s q)
    freed_owner n q = by_owner (h.owner q) refl
      where
        by_number : (t : Bool) (x : Owner) → h.owner q ≡ Some x → (if t then None else Some x) ≡ either_owner (if t then None else Some x) (alone_at s q)
        by_number true x e = sym (apart q (ap is_none e))
        by_number false x e = refl

        by_owner : (o : Option Owner) → h.owner q ≡ o →
            (if is_of n (either_owner o (alone_at s q)) then None else either_owner o (alone_at s q)) ≡ either_owner (if is_of n o then None else o)
            (alone_at s q)
        by_owner None e = rw (alones q n) refl
        by_owner (Some (Region r)) e = by_number (nat_eq r n) (Region r) e
        by_owner (Some (Alone b room)) e = refl

    without_lifted : (n : ℕ) → without_number n (joined s h) ≡ joined s (without_number n h)
    without_lifted n = λ i. record (joined s (without_number n h)) { owner = λ q. freed_owner n q i }

    pub free_lifted : (n : ℕ) → lawful.region_free n (joined s h) ≡ lifted s (lawful.region_free n h)
    free_lifted n = by_standing (h.standing n)
      where
        by_standing : (o : Option Standing) → frees_region n o (joined s h) ≡ lifted s (frees_region n o h)
        by_standing None = refl
        by_standing (Some Lexical) = ap (λ a. record { says = Ok 0; after = a }) (without_lifted n)
        by_standing (Some Opened) = refl
        by_standing (Some Closed) = refl

  -- ---- a block of a region
  module _ (n bytes : ℕ) where
    -- from what is given where the handle and the length are in order
    in_order : (a : Answer) → gives_block n (room_of bytes) a (joined s h) ≡ lifted s (gives_block n (room_of bytes) a h) →
        region_alloc n bytes a (joined s h) ≡ lifted s (region_alloc n bytes a h)
    in_order a e =
        ap (λ d. if is_block_refused n bytes h then lifted s (refuses Full h) else (if takes_blocks n (h.standing n) then d else lifted s
        (refuses BadHandle h)))
        (ap (λ d. if is_too_long bytes then lifted s (refuses Full h) else d) e ∙ lift_if s (is_too_long bytes) (refuses Full h)
        (gives_block n (room_of bytes) a h))
        ∙ ap (λ d. if is_block_refused n bytes h then lifted s (refuses Full h) else d) (lift_if s (takes_blocks n (h.standing n))
        (if is_too_long bytes then refuses Full h else gives_block n (room_of bytes) a h) (refuses BadHandle h))
        ∙ lift_if s (is_block_refused n bytes h) (refuses Full h) (lawful.region_alloc n bytes a h)

    owns_lifted : (at room q : ℕ) → owns at room (Region n) (λ q. either_owner (h.owner q) (alone_at s q)) q ≡
        either_owner (owns at room (Region n) h.owner q) (alone_at s q)
    owns_lifted at room q = by_room (is_in_room at room q)
      where
        by_room : (t : Bool) → (if t then Some (Region n) else either_owner (h.owner q) (alone_at s q)) ≡
            either_owner (if t then Some (Region n) else h.owner q) (alone_at s q)
        by_room true = refl
        by_room false = refl

    placed_lifted : (at room : ℕ) → with_region_block n at room (joined s h) ≡ joined s (with_region_block n at room h)
    placed_lifted at room = by_run (is_large room) refl
      where
        by_run : (l : Bool) → is_large room ≡ l → with_region_block n at room (joined s h) ≡ joined s (with_region_block n at room h)
        by_run true l = rw l (λ i. record (joined s h) {
          owner = λ q. owns_lifted at room q i;
          counts = with_run n (run_of room) (joined s h).counts;
        })
        by_run false l = by_page (block_needs_page n room h.counts) refl
          where
            by_page : (t : Bool) → block_needs_page n room h.counts ≡ t → with_region_block n at room (joined s h) ≡ joined s
                (with_region_block n at room h)
            by_page true e = rw (l, e) (λ i. record (joined s h) {
              owner = λ q. owns_lifted at room q i;
              counts = record (one_less (joined s h).counts) { taken = put n (h.counts.taken n + 1) h.counts.taken; left = put n (4096 - room) h.counts.left };
            })
            by_page false e = rw (l, e) (λ i. record (joined s h) {
              owner = λ q. owns_lifted at room q i;
              counts = record ((joined s h).counts) { left = put n (h.counts.left n - room) h.counts.left };
            })

    either_none : (o : Option Owner) → either_owner o None ≡ o
    either_none None = refl
    either_none (Some x) = refl

    clear_lifted : (at m : ℕ) → ((q : ℕ) → is_in_room at m q ≡ true → alone_at s q ≡ None) →
        is_clear (λ q. either_owner (h.owner q) (alone_at s q)) at m ≡ is_clear h.owner at m
    clear_lifted at zero out = refl
    clear_lifted at (suc m) out =
        let last : alone_at s (at + m) ≡ None = out (at + m) (grind (arith, nat_tests)) in
        let here : is_none (either_owner (h.owner (at + m)) (alone_at s (at + m))) ≡ is_none (h.owner (at + m)) =
        ap (λ o. is_none (either_owner (h.owner (at + m)) o)) last ∙ ap is_none (either_none (h.owner (at + m))) in
        let rest = clear_lifted at m (λ q r. out q (more q r)) in
        ap (λ t. t && is_clear (λ q. either_owner (h.owner q) (alone_at s q)) at m) here ∙ ap (λ t. is_none (h.owner (at + m)) && t) rest
      where
        more : (q : ℕ) → is_in_room at m q ≡ true → is_in_room at (suc m) q ≡ true
        more q r = by_from (nat_le at q) (nat_lt q (at + m)) refl refl r
          where
            by_from : (t u : Bool) → nat_le at q ≡ t → nat_lt q (at + m) ≡ u → (t && u) ≡ true → is_in_room at (suc m) q ≡ true
            by_from true true e f g = grind (arith, nat_tests)
            by_from true false e f g = absurd (cc)
            by_from false u e f g = absurd (cc)

    lawful_lifted : (at room : ℕ) → ((q : ℕ) → is_in_room at room q ≡ true → alone_at s q ≡ None) →
        is_lawful_room (joined s h) at room ≡ is_lawful_room h at room
    lawful_lifted at room out =
        ap (λ t. nat_eq (at % 8) 0 && (nat_le arena_base at && (nat_le (at + room) (arena_base + h.pages * 4096) && t))) (clear_lifted at room out)

    -- a grant
    given_lifted : (at : ℕ) → is_lawful_room h at (room_of bytes) ≡ true → ((q : ℕ) → is_in_room at (room_of bytes) q ≡ true → alone_at s q ≡ None) →
        gives_block n (room_of bytes) (Grants at) (joined s h) ≡ lifted s (gives_block n (room_of bytes) (Grants at) h)
    given_lifted at l out =
        let room = room_of bytes in
        ap (λ t. if t then record { says = Ok at; after = with_region_block n at room (joined s h) } else refuses Full (joined s h))
        (lawful_lifted at room out ∙ l)
        ∙ ap (λ a. record { says = Ok at; after = a }) (placed_lifted at room)
        ∙ sym (ap (λ t. lifted s (if t then record { says = Ok at; after = with_region_block n at room h } else refuses Full h)) l)

    -- a refusal
    none_lifted : (why : StoreRefusal) → gives_block n (room_of bytes) (refused_by why) (joined s h) ≡ lifted s (gives_block n (room_of bytes)
        (refused_by why) h)
    none_lifted Full = refl
    none_lifted BadHandle = refl
    none_lifted NotABlock = refl
    none_lifted BadKey = refl
    none_lifted Open = refl
    none_lifted NotOpen = refl
    none_lifted Memory = refl

    pub alloc_lifted : (r : Result ℕ StoreRefusal) (after : Holdings) → Does r after (region_alloc n bytes (answer_of r) h) →
        ((at : ℕ) → r ≡ Ok at → (q : ℕ) → is_in_room at (room_of bytes) q ≡ true → alone_at s q ≡ None) →
        Does r (joined s after) (region_alloc n bytes (answer_of r) (joined s h))
    alloc_lifted (Ok at) after d out =
        does_lifted s (Ok at) after (region_alloc n bytes (Grants at) h) (region_alloc n bytes (Grants at) (joined s h))
        (in_order (Grants at) (given_lifted at (block_placed n bytes at h after d).lawful (out at refl))) d
    alloc_lifted (Err why) after d out =
        does_lifted s (Err why) after (region_alloc n bytes (refused_by why) h) (region_alloc n bytes (refused_by why) (joined s h))
        (in_order (refused_by why) (none_lifted why)) d
