-- The heap and the other regions that were born, in a changed memory.
use Rattle.std.specs.Prelude.{if◌then◌else◌, slice_get, slice_set, nat_eq}
use Rattle.std.proofs.Common.{◌≡◌, ◌≢◌, ℕ, suc, Bool, true, false, Option, Some, None, List, [], ◌∷◌, ◌++◌, length, refl, ap, ◌∙◌, sym, subst, arith}
use Rattle.std.proofs.lemmas.Bool.Decides.{nat_tests}
use Rattle.std.proofs.lemmas.List.{length-set}
use Rattle.core_meaning.specs.Memory.{Region, Frame, Own, Born, Memory, is_live}
use Rattle.core_meaning.specs.Operations.{lies_at}
use Rattle.core_meaning.specs.Steps.{Config, with_memory}
use Rattle.core_eval.specs.declared.value.Slot.{Slot}
use Rattle.core_eval.specs.declared.region.Standing.{Standing}
use Rattle.core_eval.specs.declared.region.Standing.TheVariants as standing
use Rattle.core_eval.specs.Values.{spot_of, Shows}
use Rattle.core_eval.specs.LongBlocks.{LongBlock}
use Rattle.core_eval.specs.Regions.{Kept, Regions, still_held, region_at, is_open, open_objects, live_at}
use Rattle.core_eval.specs.Whole.{is_still}
use Rattle.core_eval.specs.Pendings.{Wait, Mark}
use Rattle.core_eval.specs.Standing.{Known, Agrees, ShowsKept, ShowsBlocks, AreKept, AreBorn, standing_of}
use Rattle.core_eval.proofs.Lists.{get_set, get_grown, get_less}
use Rattle.core_eval.proofs.Nested.{nested_still}
use Rattle.core_eval.proofs.Owned.{owned_still}

-- ---- lists of regions

-- the region with a number is another one
pub region_set : (regions : Regions) (n : ℕ) (held old : Option Kept) (q : ℕ) → slice_get regions n ≡ Some old
    → region_at (slice_set regions n held) q ≡ (if nat_eq q n then held else region_at regions q)
region_set regions n held old q at = ap still_held (get_set regions n held old q at) ∙ by (nat_eq q n)
  where
    by : (b : Bool) → still_held (if b then Some held else slice_get regions q) ≡ (if b then held else region_at regions q)
    by true = refl
    by false = refl

-- one region more
pub region_grown : (regions : Regions) (held : Option Kept) (q : ℕ)
    → region_at (regions ++ held ∷ []) q ≡ (if nat_eq q (length regions) then held else region_at regions q)
region_grown regions held q = ap still_held (get_grown regions held q) ∙ by (nat_eq q (length regions))
  where
    by : (b : Bool) → still_held (if b then Some held else slice_get regions q) ≡ (if b then held else region_at regions q)
    by true = refl
    by false = refl

-- a region that isn't freed is there
pub held_there : (regions : Regions) (n : ℕ) (kept : Kept) → region_at regions n ≡ Some kept → slice_get regions n ≡ Some (Some kept)
held_there regions n kept is = by (slice_get regions n) is
  where
    by : (o : Option (Option Kept)) → still_held o ≡ Some kept → o ≡ Some (Some kept)
    by None e = cc
    by (Some held) e = ap Some e

-- one whose blocks are reached is there, and open
pub record IsReached (regions : Regions) (n : ℕ) (objects : List (List Slot)) : Type 0 where
  pub kept : Kept
  pub there : slice_get regions n ≡ Some (Some kept)
  pub opens : is_open kept.standing ≡ true
  pub same : objects ≡ kept.objects

pub reached_there : (regions : Regions) (n : ℕ) (objects : List (List Slot)) → live_at regions n ≡ Some objects → IsReached regions n objects
reached_there regions n objects is = by (region_at regions n) refl is
  where
    within : (kept : Kept) (b : Bool) → region_at regions n ≡ Some kept → is_open kept.standing ≡ b → (if b then Some kept.objects else None) ≡ Some objects
        → IsReached regions n objects
    within kept true at opens e = record { kept = kept; there = held_there regions n kept at; opens = opens; same = cc }
    within kept false at opens e = cc

    by : (held : Option Kept) → region_at regions n ≡ held → open_objects held ≡ Some objects → IsReached regions n objects
    by None at e = cc
    by (Some kept) at e = within kept (is_open kept.standing) at refl e

-- ---- what a region is

pub open_is : (s : Standing) → is_live (standing_of s) ≡ is_open s
open_is standing.Lexical = refl
open_is standing.Single = refl
open_is standing.Opened = refl
open_is standing.Closed = refl

-- an open one is live
pub kept_shows : (m : Memory) (r : Region) (kept : Kept) → ShowsKept m r kept → is_open kept.standing ≡ true → Shows m r kept.objects
kept_shows m r kept shows opens = record { live = ap is_live shows.standing ∙ open_is kept.standing ∙ opens; holds = shows.holds }

-- whether it is live, as far as its blocks are reached
pub still_is : (m : Memory) (r : Region) (held : Option Kept) → ShowsBlocks m r held → is_live (m.standing r) ≡ is_still (open_objects held)
still_is m r None dead = ap is_live dead
still_is m r (Some kept) shows = ap is_live shows.standing ∙ open_is kept.standing ∙ by (is_open kept.standing)
  where
    by : (b : Bool) → b ≡ is_still (if b then Some kept.objects else None)
    by true = refl
    by false = refl

-- ---- what was born

-- nothing changes of what was born
pub record KeepsBorn (m m' : Memory) : Type 0 where
  pub births : m'.births ≡ m.births
  pub standing : (d : ℕ) → m'.standing (Born d) ≡ m.standing (Born d)
  pub objects : (d : ℕ) → m'.objects (Born d) ≡ m.objects (Born d)
  pub parts : (d i k j : ℕ) → m'.parts (spot_of (Born d) i k) j ≡ m.parts (spot_of (Born d) i k) j

-- nothing changes of what was born but for one region
pub record KeepsOthers (changed : ℕ) (m m' : Memory) : Type 0 where
  pub births : m'.births ≡ m.births
  pub standing : (d : ℕ) → d ≢ changed → m'.standing (Born d) ≡ m.standing (Born d)
  pub objects : (d : ℕ) → d ≢ changed → m'.objects (Born d) ≡ m.objects (Born d)
  pub parts : (d i k j : ℕ) → d ≢ changed → m'.parts (spot_of (Born d) i k) j ≡ m.parts (spot_of (Born d) i k) j

module _ (m m' : Memory) (r : Region) (standing : m'.standing r ≡ m.standing r) (objects : m'.objects r ≡ m.objects r)
    (parts : (i k j : ℕ) → m'.parts (spot_of r i k) j ≡ m.parts (spot_of r i k) j) where
  pub shows_same : (os : List (List Slot)) → Shows m r os → Shows m' r os
  shows_same os s = record { live = ap is_live standing ∙ s.live; holds = λ i k j. parts i k j ∙ s.holds i k j }

  pub blocks_same : (held : Option Kept) → ShowsBlocks m r held → ShowsBlocks m' r held
  blocks_same None dead = standing ∙ dead
  blocks_same (Some kept) s = record {
    standing = standing ∙ s.standing;
    holds = λ i k j. parts i k j ∙ s.holds i k j;
    counted = objects ∙ s.counted;
  }

module _ (m m' : Memory) (globals : List (List Slot)) (regions : Regions) (long_blocks : List LongBlock) (born : AreBorn m globals regions long_blocks) where
  pub born_kept : KeepsBorn m m' → AreBorn m' globals regions long_blocks
  born_kept keeps = record {
    births = keeps.births ∙ born.births;
    lexical = keeps.standing 0 ∙ born.lexical;
    heap = keeps.objects 0 ∙ born.heap;
    each = λ n. blocks_same m m' (Born (suc n)) (keeps.standing (suc n)) (keeps.objects (suc n)) (keeps.parts (suc n)) (region_at regions n) (born.each n);
    empty = λ n le. keeps.objects (suc n) ∙ born.empty n le;
    missing = λ n i cell j le. keeps.parts (suc n) i cell j ∙ born.missing n i cell j le;
    kept = λ n i k byte far. ap (λ p. lies_at p byte) (keeps.parts (suc n) i k 0) ∙ born.kept n i k byte far;
  }

  -- the heap alone changes
  pub heap_changed : KeepsOthers 0 m m' → m'.standing (Born 0) ≡ m.standing (Born 0) → (globals' : List (List Slot))
      → m'.objects (Born 0) ≡ length globals' → AreBorn m' globals' regions long_blocks
  heap_changed keeps same globals' counted = record {
    births = keeps.births ∙ born.births;
    lexical = same ∙ born.lexical;
    heap = counted;
    each = λ n. blocks_same m m' (Born (suc n)) (keeps.standing (suc n) (omega arith)) (keeps.objects (suc n) (omega arith))
        (λ i k j. keeps.parts (suc n) i k j (omega arith)) (region_at regions n) (born.each n);
    empty = λ n le. keeps.objects (suc n) (omega arith) ∙ born.empty n le;
    missing = λ n i cell j le. keeps.parts (suc n) i cell j (omega arith) ∙ born.missing n i cell j le;
    kept = λ n i k byte far. ap (λ p. lies_at p byte) (keeps.parts (suc n) i k 0 (omega arith)) ∙ born.kept n i k byte far;
  }

  -- another region alone changes
  module _ (n : ℕ) (keeps : KeepsOthers (suc n) m m') (held old : Option Kept) (at : slice_get regions n ≡ Some old)
      (shows : ShowsBlocks m' (Born (suc n)) held) (long_blocks' : List LongBlock) (kept : AreKept m' long_blocks') where
    each_changed : (q : ℕ) (b : Bool) → nat_eq q n ≡ b → ShowsBlocks m' (Born (suc q)) (if b then held else region_at regions q)
    each_changed q true e =
        let same : q ≡ n = grind (arith, nat_tests, e) in
        subst (λ (x : ℕ). ShowsBlocks m' (Born (suc x)) held) (sym same) shows
    each_changed q false e =
        let other : suc q ≢ suc n = grind (arith, nat_tests, e) in
        blocks_same m m' (Born (suc q)) (keeps.standing (suc q) other) (keeps.objects (suc q) other) (λ i k j. keeps.parts (suc q) i k j other)
        (region_at regions q) (born.each q)

    pub region_changed : AreBorn m' globals (slice_set regions n held) long_blocks'
    region_changed =
        let long = length-set regions n held in
        let less = get_less regions n old at in
        record {
          births = keeps.births ∙ born.births ∙ ap suc (sym long);
          lexical = keeps.standing 0 (omega arith) ∙ born.lexical;
          heap = keeps.objects 0 (omega arith) ∙ born.heap;
          each = λ q. subst (ShowsBlocks m' (Born (suc q))) (sym (region_set regions n held old q at)) (each_changed q (nat_eq q n) refl);
          empty = λ q le. keeps.objects (suc q) (omega (arith, le, long, less)) ∙ born.empty q (omega (arith, le, long));
          missing = λ q i cell j le. keeps.parts (suc q) i cell j (omega (arith, le, long, less)) ∙ born.missing q i cell j (omega (arith, le, long));
          kept = kept;
        }

  -- a region that isn't freed shows its blocks, and has so many
  pub region_shows : (n : ℕ) (kept : Kept) → slice_get regions n ≡ Some (Some kept) → ShowsKept m (Born (suc n)) kept
  region_shows n kept at = subst (ShowsBlocks m (Born (suc n))) (ap still_held at) (born.each n)

-- ---- what is known

-- nothing changes of blocks and of functions
pub record KeepsFrames (m m' : Memory) : Type 0 where
  pub activations : m'.activations ≡ m.activations
  pub calls : m'.calls ≡ m.calls
  pub standing : (k : ℕ) → m'.standing (Frame k) ≡ m.standing (Frame k)
  pub objects : (k : ℕ) → m'.objects (Frame k) ≡ m.objects (Frame k)
  pub parts : (n i k j : ℕ) → m'.parts (spot_of (Frame n) i k) j ≡ m.parts (spot_of (Frame n) i k) j
  pub own_standing : (k : ℕ) → m'.standing (Own k) ≡ m.standing (Own k)
  pub own_objects : (k : ℕ) → m'.objects (Own k) ≡ m.objects (Own k)
  pub own_parts : (n i k j : ℕ) → m'.parts (spot_of (Own n) i k) j ≡ m.parts (spot_of (Own n) i k) j

-- all is known where the blocks of regions alone change
pub born_agrees : (known : Known) (ws : List Wait) (marks : List Mark) (c : Config) → Agrees known ws marks c → (m' : Memory) → KeepsFrames c.memory m'
    → (globals : List (List Slot)) (regions : Regions) (long_blocks : List LongBlock) → Shows m' (Born 0) globals → AreBorn m' globals regions long_blocks
    → Agrees (record known { globals = globals; regions = regions; long_blocks = long_blocks }) ws marks (with_memory m' c)
born_agrees known ws marks c h m' keeps globals regions long_blocks shows born =
    let m = c.memory in
    let a = keeps.activations in
    let f = keeps.calls in
    record {
      temps = h.temps;
      fresh = record {
        empty = λ k le. keeps.objects k ∙ h.fresh.empty k (omega (arith, le, a));
        missing = λ n i k j le. keeps.parts n i k j ∙ h.fresh.missing n i k j (omega (arith, le, a));
        no_values = λ k le. keeps.own_objects k ∙ h.fresh.no_values k (omega (arith, le, f));
        no_value = λ n i k j le. keeps.own_parts n i k j ∙ h.fresh.no_value n i k j (omega (arith, le, f));
      };
      globals = shows;
      nested = nested_still m m' m.activations m'.activations c.blocks known.base known.blocks ws marks (omega (arith, a))
          (λ k os below s. shows_same m m' (Frame k) (keeps.standing k) (keeps.objects k) (keeps.parts k) os s) h.nested;
      entered = h.entered ∙ sym a;
      live = λ k gone. ap is_live (keeps.standing k) ∙ h.live k gone;
      owned = owned_still m m' m.calls m'.calls c.own known.owns ws marks (omega (arith, f))
          (λ k os below s. shows_same m m' (Own k) (keeps.own_standing k) (keeps.own_objects k) (keeps.own_parts k) os s) h.owned;
      called = h.called ∙ sym f;
      values_live = λ k gone. ap is_live (keeps.own_standing k) ∙ h.values_live k gone;
      born = born;
    }
