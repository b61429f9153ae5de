-- A block in a region that takes blocks, whether a key's or not.
use Rattle.std.proofs.Common.{◌≡◌, ℕ, Bool, true, false, Option, Some, None, Result, Ok, nat_eq, refl, sym, ap, ◌∙◌}
use Rattle.std.specs.Prelude.{if◌then◌else◌, ◌&&◌}
use Rattle.arena_laws.specs.declared.refusal.StoreRefusal.{StoreRefusal}
use Rattle.arena_laws.specs.declared.refusal.StoreRefusal.TheVariants.{Full, BadHandle}
use Rattle.arena_laws.specs.declared.standing.Standing.TheVariants.{Lexical, Opened, Closed}
use Rattle.arena_laws.specs.Counts.{is_full_for_block, is_too_long, room_of}
use Rattle.arena_laws.specs.Holdings.{Holdings}
use Rattle.arena_laws.specs.Lawful.{Answer, Grants, Refuses, Lacks, Done, refuses, gives_block, is_lawful_room, takes_blocks, with_region_block}
use Rattle.arena_laws.specs.Laws.{Does, answer_of, is_block_refused, region_alloc}
use Rattle.dynamic_region.specs.Keyed.{AreTagged, is_closed_key, keyed, lexical, standing_of}

-- what a call did, with the keys' numbers
abbrev keyed_done : (ℕ → Option ℕ) → Done → Done
keyed_done tags d = record { says = d.says; after = keyed d.after tags }

-- a number that isn't a closed key's takes blocks where its region does
same_takes : (h : ℕ) (tag : Option ℕ) → is_closed_key (standing_of tag) ≡ false → takes_blocks h (standing_of tag) ≡ takes_blocks h (lexical tag)
same_takes h None n = refl
same_takes h (Some t) n = by_lexical (nat_eq t 0) (nat_eq t 1) n
  where
    by_lexical : (b c : Bool) → is_closed_key (Some (if b then Lexical else if c then Closed else Opened)) ≡ false →
        takes_blocks h (Some (if b then Lexical else if c then Closed else Opened)) ≡ true
    by_lexical true c n = refl
    by_lexical false true n = absurd (cc)
    by_lexical false false n = refl

module _ (h bytes : ℕ) where
  -- what is made of what is held, where a block is given at an address
  abbrev given : Holdings → ℕ → ℕ → Bool → Done
  given s room at lawful = (if lawful then record { says = Ok at; after = with_region_block h at room s } else refuses Full s)

  -- what is made of it where a block is asked for: whether blocks are taken under the number, whether it is Full, and whether the block is too long
  abbrev asked : Holdings → Bool → Bool → Bool → Answer → Done
  asked s takes full long a =
      (if takes && full then refuses Full s else
      if takes then (if long then refuses Full s else gives_block h (room_of bytes) a s) else refuses BadHandle s)

  module _ (s : Holdings) (tags : ℕ → Option ℕ) where
    given_same : (room at : ℕ) (lawful : Bool) → given (keyed s tags) room at lawful ≡ keyed_done tags (given s room at lawful)
    given_same room at true = refl
    given_same room at false = refl

    block_same : (room : ℕ) (a : Answer) → gives_block h room a (keyed s tags) ≡ keyed_done tags (gives_block h room a s)
    block_same room Refuses = refl
    block_same room Lacks = refl
    block_same room (Grants at) = given_same room at (is_lawful_room s at room)

    asked_same : (takes full long : Bool) (a : Answer) → asked (keyed s tags) takes full long a ≡ keyed_done tags (asked s takes full long a)
    asked_same true true long a = refl
    asked_same true false true a = refl
    asked_same true false false a = block_same (room_of bytes) a
    asked_same false full long a = refl

    placed_same : AreTagged s tags → is_closed_key (standing_of (tags h)) ≡ false → (a : Answer) →
        region_alloc h bytes a (keyed s tags) ≡ keyed_done tags (region_alloc h bytes a s)
    placed_same t n a =
        let e : takes_blocks h (standing_of (tags h)) ≡ takes_blocks h (s.standing h) = same_takes h (tags h) n ∙ ap (takes_blocks h) (sym (t.each h)) in
        ap (λ takes. asked (keyed s tags) takes (is_full_for_block h bytes s.counts) (is_too_long bytes) a) e
        ∙ asked_same (takes_blocks h (s.standing h)) (is_full_for_block h bytes s.counts) (is_too_long bytes) a

    pub placed_full : AreTagged s tags → is_closed_key (standing_of (tags h)) ≡ false → is_block_refused h bytes s ≡ is_block_refused h bytes (keyed s tags)
    placed_full t n =
        ap (λ takes. takes && is_full_for_block h bytes s.counts) (sym (same_takes h (tags h) n ∙ ap (takes_blocks h) (sym (t.each h))))

    pub placed_does : (after : Holdings) (tags_after : ℕ → Option ℕ) (r : Result ℕ StoreRefusal) → AreTagged s tags →
        is_closed_key (standing_of (tags h)) ≡ false → tags_after ≡ tags → Does r after (region_alloc h bytes (answer_of r) s) →
        Does r (keyed after tags_after) (region_alloc h bytes (answer_of r) (keyed s tags))
    placed_does after tags_after r t n e d =
        let same = placed_same t n (answer_of r) in record {
          says = d.says ∙ ap (λ x. x.says) (sym same);
          holds = ap (keyed after) e ∙ ap (λ x. keyed x tags) d.holds ∙ ap (λ x. x.after) (sym same);
        }
