-- A change of one area's objects, and what is known after it.
use Rattle.std.specs.Prelude.{if◌then◌else◌, slice_get, slice_set, ◌&&◌, nat_eq}
use Rattle.std.proofs.Common.{◌≡◌, ℕ, suc, true, false, Option, Some, List, length, refl, ap, ◌∙◌, sym, subst, arith}
use Rattle.core_meaning.specs.Memory.{Region, Frame, Own, Born, Spot, Part, Memory, same_region, with_part}
use Rattle.core_meaning.specs.Operations.{lies_at}
use Rattle.core_meaning.specs.Steps.{Config, with_memory}
use Rattle.core_eval.specs.declared.value.Area.{Area}
use Rattle.core_eval.specs.declared.value.Area.TheVariants as area
use Rattle.core_eval.specs.declared.value.Slot.{Slot}
use Rattle.core_eval.specs.Values.{region_of, spot_of, part_in, slot_at, Shows}
use Rattle.core_eval.specs.Regions.{Kept, is_open, with_blocks}
use Rattle.core_eval.specs.Blocks.{Activation, Stored, position_of}
use Rattle.core_eval.specs.Pendings.{Wait, Mark}
use Rattle.core_eval.specs.Standing.{Known, Agrees}
use Rattle.core_eval.proofs.Memories.{other_number}
use Rattle.core_eval.proofs.Born.{KeepsBorn, KeepsOthers, KeepsFrames, born_kept, heap_changed, region_changed, region_shows, kept_shows, born_agrees}
use Rattle.core_eval.proofs.Owned.{owned_still, owned_shows, owned_put}
use Rattle.core_eval.proofs.Nested.{nested_still, nested_shows, nested_put, position_there, position_put}

-- what is stored, of what is known
abbrev pub stored_in : Known → Stored
stored_in known = record { blocks = known.blocks; owns = known.owns; globals = known.globals; regions = known.regions; long_blocks = known.long_blocks }

abbrev pub with_stored : Known → Stored → Known
with_stored known after = record known {
  blocks = after.blocks;
  owns = after.owns;
  globals = after.globals;
  regions = after.regions;
  long_blocks = after.long_blocks;
}

-- an area's objects are these, and afterwards those, and nothing else is stored in another way
abbrev pub Replaces : Known → Area → (objects objects' : List (List Slot)) → Stored → Type 0
Replaces known area.Globals objects objects' after = (objects ≡ known.globals) × (after ≡ record (stored_in known) { globals = objects' })
Replaces known (area.Region n) objects objects' after =
    (kept : Kept) × (slice_get known.regions n ≡ Some (Some kept)) × (is_open kept.standing ≡ true) × (objects ≡ kept.objects)
    × (after ≡ record (stored_in known) { regions = slice_set known.regions n (Some (with_blocks kept objects')) })
Replaces known (area.Block n) objects objects' after =
    (p : ℕ) × (b : Activation) × (position_of known.blocks n ≡ Some p) × (slice_get known.blocks p ≡ Some b) × (objects ≡ b.objects)
    × (after ≡ record (stored_in known) { blocks = slice_set known.blocks p (record { number = b.number; objects = objects' }) })
Replaces known (area.Own n) objects objects' after =
    (p : ℕ) × (b : Activation) × (position_of known.owns n ≡ Some p) × (slice_get known.owns p ≡ Some b) × (objects ≡ b.objects)
    × (after ≡ record (stored_in known) { owns = slice_set known.owns p (record { number = b.number; objects = objects' }) })

-- in another region a store changes nothing
pub part_elsewhere : (m : Memory) (r : Region) (i k j : ℕ) (p : Part) (t : Spot) (x : ℕ) → same_region t.region r ≡ false
    → (with_part m (spot_of r i k) j p).parts t x ≡ m.parts t x
part_elsewhere m r i k j p t x other =
    ap (λ b. if (b && (nat_eq t.object i && nat_eq t.cell k)) && nat_eq x j then Some p else m.parts t x) other

-- the number of the block that stands there
block_number : (blocks : List Activation) (n p : ℕ) (b : Activation) → position_of blocks n ≡ Some p → slice_get blocks p ≡ Some b → b.number ≡ n
block_number blocks n p b at there = let e = position_there blocks n p at in cc

module _ (known : Known) (ws : List Wait) (marks : List Mark) (c : Config) (h : Agrees known ws marks c) where
  -- the area's region shows its objects
  pub replaced_shows : (a : Area) (objects objects' : List (List Slot)) (after : Stored) → Replaces known a objects objects' after
      → Shows c.memory (region_of a) objects
  replaced_shows area.Globals objects objects' after (same, is) = subst (λ (os : List (List Slot)). Shows c.memory (Born 0) os) (sym same) h.globals
  replaced_shows (area.Region n) objects objects' after (kept, at, opens, same, is) =
      subst (λ (os : List (List Slot)). Shows c.memory (Born (suc n)) os) (sym same)
      (kept_shows c.memory (Born (suc n)) kept (region_shows c.memory c.memory known.globals known.regions known.long_blocks h.born n kept at) opens)
  replaced_shows (area.Block n) objects objects' after (p, b, at, there, same, is) =
      let (below, shows) = nested_shows c.memory c.memory.activations c.blocks known.base known.blocks ws marks p b h.nested there in
      subst (λ (os : List (List Slot)). Shows c.memory (Frame n) os) (sym same)
      (subst (λ (k : ℕ). Shows c.memory (Frame k) b.objects) (block_number known.blocks n p b at there) shows)
  replaced_shows (area.Own n) objects objects' after (p, b, at, there, same, is) =
      let (below, shows) = owned_shows c.memory c.memory.calls c.own known.owns ws marks p b h.owned there in
      subst (λ (os : List (List Slot)). Shows c.memory (Own n) os) (sym same)
      (subst (λ (k : ℕ). Shows c.memory (Own k) b.objects) (block_number known.owns n p b at there) shows)

  -- where parts change, and none lies elsewhere
  module _ (parts' : Spot → ℕ → Option Part) (lies : (t : Spot) (byte : ℕ) → lies_at (parts' t 0) byte ≡ lies_at (c.memory.parts t 0) byte) where
    -- the memory with other parts
    abbrev changed : Memory
    changed = record c.memory { parts = parts' }

    shows_other : (r q : Region) (objects : List (List Slot)) → ((t : Spot) (j : ℕ) → same_region t.region r ≡ false → parts' t j ≡ c.memory.parts t j)
        → same_region q r ≡ false → Shows c.memory q objects → Shows changed q objects
    shows_other r q objects others other s =
        record { live = s.live; holds = λ x y z. others (spot_of q x y) z other ∙ s.holds x y z }

    -- elsewhere than in the region with a birth nothing changes
    abbrev ElsewhereThan : Region → Type 0
    ElsewhereThan r = (t : Spot) (j : ℕ) → same_region t.region r ≡ false → parts' t j ≡ c.memory.parts t j

    keeps_frames : (d : ℕ) → ElsewhereThan (Born d) → KeepsFrames c.memory changed
    keeps_frames d others = record {
      activations = refl;
      calls = refl;
      standing = λ k. refl;
      objects = λ k. refl;
      parts = λ n i k j. others (spot_of (Frame n) i k) j refl;
      own_standing = λ k. refl;
      own_objects = λ k. refl;
      own_parts = λ n i k j. others (spot_of (Own n) i k) j refl;
    }

    keeps_others : (d : ℕ) → ElsewhereThan (Born d) → KeepsOthers d c.memory changed
    keeps_others d others = record {
      births = refl;
      standing = λ q other. refl;
      objects = λ q other. refl;
      parts = λ q i k j other. others (spot_of (Born q) i k) j (other_number q d other);
    }

    keeps_born : (r : Region) → ((d : ℕ) → same_region (Born d) r ≡ false) → ElsewhereThan r → KeepsBorn c.memory changed
    keeps_born r other others = record {
      births = refl;
      standing = λ q. refl;
      objects = λ q. refl;
      parts = λ q i k j. others (spot_of (Born q) i k) j (other q);
    }

    globals_agree : (objects' : List (List Slot)) → length objects' ≡ length known.globals → ElsewhereThan (Born 0)
        → ((i k j : ℕ) → parts' (spot_of (Born 0) i k) j ≡ part_in (slot_at objects' i k) j)
        → Agrees (record known { globals = objects' }) ws marks (with_memory changed c)
    globals_agree objects' long others shows =
        born_agrees known ws marks c h changed (keeps_frames 0 others) objects' known.regions known.long_blocks
        (record { live = h.globals.live; holds = shows })
        (heap_changed c.memory changed known.globals known.regions known.long_blocks h.born (keeps_others 0 others) refl objects' (h.born.heap ∙ sym long))

    region_agrees : (n : ℕ) (kept : Kept) (objects' : List (List Slot)) → slice_get known.regions n ≡ Some (Some kept) → length objects' ≡ length kept.objects
        → ElsewhereThan (Born (suc n)) → ((i k j : ℕ) → parts' (spot_of (Born (suc n)) i k) j ≡ part_in (slot_at objects' i k) j)
        → Agrees (record known { regions = slice_set known.regions n (Some (with_blocks kept objects')) }) ws marks (with_memory changed c)
    region_agrees n kept objects' at long others shows =
        let was = region_shows c.memory c.memory known.globals known.regions known.long_blocks h.born n kept at in
        born_agrees known ws marks c h changed (keeps_frames (suc n) others) known.globals (slice_set known.regions n (Some (with_blocks kept objects')))
        known.long_blocks
        (shows_other (Born (suc n)) (Born 0) known.globals others (other_number 0 (suc n) (omega arith)) h.globals)
        (region_changed c.memory changed known.globals known.regions known.long_blocks h.born n (keeps_others (suc n) others) (Some (with_blocks kept objects'))
        (Some kept) at (record { standing = was.standing; holds = shows; counted = was.counted ∙ sym long }) known.long_blocks
        (λ n i k byte far. lies (spot_of (Born (suc n)) i k) byte ∙ h.born.kept n i k byte far))

    values_agree : (p : ℕ) (b : Activation) (objects' : List (List Slot)) → slice_get known.owns p ≡ Some b
        → ((t : Spot) (j : ℕ) → same_region t.region (Own b.number) ≡ false → parts' t j ≡ c.memory.parts t j)
        → ((i k j : ℕ) → parts' (spot_of (Own b.number) i k) j ≡ part_in (slot_at objects' i k) j)
        → Agrees (record known { owns = slice_set known.owns p (record { number = b.number; objects = objects' }) }) ws marks (with_memory changed c)
    values_agree p b objects' at others shows =
        let (below, was) = owned_shows c.memory c.memory.calls c.own known.owns ws marks p b h.owned at in record {
          temps = h.temps;
          fresh = record {
            empty = h.fresh.empty;
            missing = λ k i cell j le. others (spot_of (Frame k) i cell) j refl ∙ h.fresh.missing k i cell j le;
            no_values = h.fresh.no_values;
            no_value = λ k i cell j le.
                others (spot_of (Own k) i cell) j (other_number k b.number (omega (arith, below, le))) ∙ h.fresh.no_value k i cell j le;
          };
          globals = shows_other (Own b.number) (Born 0) known.globals others refl h.globals;
          nested = nested_still c.memory changed c.memory.activations c.memory.activations c.blocks known.base known.blocks ws marks (omega arith)
              (λ k os less s. shows_other (Own b.number) (Frame k) os others refl s) h.nested;
          entered = h.entered;
          live = h.live;
          owned = owned_put c.memory changed b.number objects' (record { live = was.live; holds = shows })
              (λ q os other s. shows_other (Own b.number) (Own q) os others (other_number q b.number other) s)
              c.memory.calls c.own known.owns ws marks p b at refl h.owned;
          called = h.called;
          values_live = λ k gone.
              h.values_live k (sym (position_put known.owns p k b (record { number = b.number; objects = objects' }) at refl) ∙ gone);
          born = born_kept c.memory changed known.globals known.regions known.long_blocks h.born (keeps_born (Own b.number) (λ d. refl) others);
        }

    block_agrees : (p : ℕ) (b : Activation) (objects' : List (List Slot)) → slice_get known.blocks p ≡ Some b
        → ((t : Spot) (j : ℕ) → same_region t.region (Frame b.number) ≡ false → parts' t j ≡ c.memory.parts t j)
        → ((i k j : ℕ) → parts' (spot_of (Frame b.number) i k) j ≡ part_in (slot_at objects' i k) j)
        → Agrees (record known { blocks = slice_set known.blocks p (record { number = b.number; objects = objects' }) }) ws marks (with_memory changed c)
    block_agrees p b objects' at others shows =
        let (below, was) = nested_shows c.memory c.memory.activations c.blocks known.base known.blocks ws marks p b h.nested at in record {
          temps = h.temps;
          fresh = record {
            empty = h.fresh.empty;
            missing = λ k i cell j le.
                others (spot_of (Frame k) i cell) j (other_number k b.number (omega (arith, below, le))) ∙ h.fresh.missing k i cell j le;
            no_values = h.fresh.no_values;
            no_value = λ k i cell j le. others (spot_of (Own k) i cell) j refl ∙ h.fresh.no_value k i cell j le;
          };
          globals = shows_other (Frame b.number) (Born 0) known.globals others refl h.globals;
          nested = nested_put c.memory changed b.number objects' (record { live = was.live; holds = shows })
              (λ q os other s. shows_other (Frame b.number) (Frame q) os others (other_number q b.number other) s)
              c.memory.activations c.blocks known.base known.blocks ws marks p b at refl h.nested;
          entered = h.entered;
          live = λ k gone. h.live k (sym (position_put known.blocks p k b (record { number = b.number; objects = objects' }) at refl) ∙ gone);
          owned = owned_still c.memory changed c.memory.calls c.memory.calls c.own known.owns ws marks (omega arith)
              (λ k os less s. shows_other (Frame b.number) (Own k) os others refl s) h.owned;
          called = h.called;
          values_live = h.values_live;
          born = born_kept c.memory changed known.globals known.regions known.long_blocks h.born (keeps_born (Frame b.number) (λ d. refl) others);
        }

    -- after a change of the area's objects all is known as it is stored
    pub replaced_agrees : (a : Area) (objects objects' : List (List Slot)) (after : Stored) → Replaces known a objects objects' after
        → length objects' ≡ length objects
        → ((t : Spot) (j : ℕ) → same_region t.region (region_of a) ≡ false → parts' t j ≡ c.memory.parts t j)
        → ((i k j : ℕ) → parts' (spot_of (region_of a) i k) j ≡ part_in (slot_at objects' i k) j)
        → Agrees (with_stored known after) ws marks (with_memory changed c)
    replaced_agrees area.Globals objects objects' after (same, is) long others shows =
        subst (λ (s : Stored). Agrees (with_stored known s) ws marks (with_memory changed c)) (sym is)
        (globals_agree objects' (long ∙ ap length same) others shows)
    replaced_agrees (area.Region n) objects objects' after (kept, at, opens, same, is) long others shows =
        subst (λ (s : Stored). Agrees (with_stored known s) ws marks (with_memory changed c)) (sym is)
        (region_agrees n kept objects' at (long ∙ ap length same) others shows)
    replaced_agrees (area.Block n) objects objects' after (p, b, at, there, same, is) long others shows =
        let number = block_number known.blocks n p b at there in
        subst (λ (s : Stored). Agrees (with_stored known s) ws marks (with_memory changed c)) (sym is)
        (block_agrees p b objects' there
        (λ t j other. others t j (ap (λ k. same_region t.region (Frame k)) (sym number) ∙ other))
        (λ i k j. ap (λ x. parts' (spot_of (Frame x) i k) j) number ∙ shows i k j))
    replaced_agrees (area.Own n) objects objects' after (p, b, at, there, same, is) long others shows =
        let number = block_number known.owns n p b at there in
        subst (λ (s : Stored). Agrees (with_stored known s) ws marks (with_memory changed c)) (sym is)
        (values_agree p b objects' there
        (λ t j other. others t j (ap (λ k. same_region t.region (Own k)) (sym number) ∙ other))
        (λ i k j. ap (λ x. parts' (spot_of (Own x) i k) j) number ∙ shows i k j))
