-- Whole objects copied and cleared, as Core does it.
use Rattle.std.specs.Prelude.{if◌then◌else◌, not, ◌&&◌, nat_eq, nat_le, nat_lt, slice_get, slice_set, option_map}
use Rattle.std.proofs.Common.{
  ◌≡◌,
  ℕ,
  ◌+◌,
  ◌-◌,
  ◌*◌,
  ◌/◌,
  ◌%◌,
  Bool,
  true,
  false,
  Option,
  Some,
  None,
  List,
  length,
  refl,
  ap,
  ◌∙◌,
  sym,
  subst,
  arith,
}
use Rattle.std.proofs.lemmas.Bool.{and_parts}
use Rattle.std.proofs.lemmas.List.{length-map}
use Rattle.std.proofs.lemmas.Nat.{div-add-mod'}
use Rattle.std.proofs.Math.Bool.{and-false}
use Rattle.core_meaning.specs.Memory.{Content, Spot, Part, PartShape, Layout, Memory, is_live, shape_in}
use Rattle.core_meaning.specs.Core as core
use Rattle.core_meaning.specs.Steps as steps
use Rattle.core_meaning.specs.Steps.{Config, with_memory, Step, checked, pointer_of}
use Rattle.core_meaning.specs.Operations as operations
use Rattle.core_meaning.specs.Operations.{
  is_there,
  are_elements,
  cells_on,
  part_of,
  on_from,
  copied,
  in_element,
  cleared,
  lies_at,
}
use Rattle.cyc_core.specs.declared.layout.CellLayout.{CellLayout}
use Rattle.cyc_core.specs.declared.layout.Layout as code
use Rattle.cyc_core.specs.Trees.{cell_parts, layout_tree}
use Rattle.core_eval.specs.declared.value.Area.{Area}
use Rattle.core_eval.specs.declared.value.Area.TheVariants as area
use Rattle.core_eval.specs.declared.value.Place.{Place}
use Rattle.core_eval.specs.declared.value.Value.{Value}
use Rattle.core_eval.specs.declared.value.Value.TheVariants as value
use Rattle.core_eval.specs.declared.held.Held.{Held}
use Rattle.core_eval.specs.declared.value.Slot.{Slot}
use Rattle.core_eval.specs.Values.{region_of, spot_of, place_spot, content_of, temp_of, part_in, slot_at}
use Rattle.core_eval.specs.Blocks.{Activation, Stored, position_of, slot_in, slot_among, slot_through}
use Rattle.core_eval.specs.Regions.{Kept, region_at, still_held, is_open, open_objects, slot_within}
use Rattle.core_eval.specs.Whole as whole
use Rattle.core_eval.specs.Whole.{
  are_cells,
  are_alike,
  elements_alike,
  slots_of,
  is_found,
  is_still,
  is_held,
  is_cell,
  is_alike,
  are_laid,
  has_elements,
  same_object,
  values_from,
  first_elements,
  fill_in,
  fill_held,
  fill_among,
  fill_through,
  fill_to,
}
use Rattle.core_eval.specs.Pendings.{Execute, Leave, Wait, Go, Wrong, Mark, rest_of}
use Rattle.core_eval.specs.Standing.{Known, Agrees}
use Rattle.core_eval.specs.Costs.{IsMove}
use Rattle.core_eval.proofs.Nested.{position_there}
use Rattle.core_eval.proofs.Born.{held_there}
use Rattle.core_eval.proofs.Changes.{stored_in, with_stored, Replaces, replaced_shows, replaced_agrees}
use Rattle.core_eval.proofs.MemoryMoves.{AreInOrder, ordered, same_regions}
use Rattle.core_eval.proofs.Laid.{held_part, laid_is, elements_is}
use Rattle.core_eval.proofs.Filled.{filled_slot, fill_length, object_changed}
use Rattle.core_eval.proofs.CopiedParts.{copied_by, cleared_by, copied_lies, cleared_lies}
use Rattle.core_eval.proofs.WholeParts.{
  copied_part,
  cleared_part,
  values_at,
  values_long,
  cell_there,
  alike_there,
  cell_at,
  cell_copied,
  cell_cleared,
  element_laid,
  element_alike,
  first_at,
  first_long,
}
use Rattle.core_eval.proofs.Moves.{all_stand, goes_here, goes_wrong}

-- ---- an area whose cells get other values

module _ (known : Known) (i k : ℕ) (vs : List Held) where
  block_filled : (n p : ℕ) (o : Option Activation) → position_of known.blocks n ≡ Some p → slice_get known.blocks p ≡ o
      → (objects : List (List Slot))
      × Replaces known (area.Block n) objects (fill_in objects i k vs) (record (stored_in known) { blocks = fill_among known.blocks p i k vs o })
  block_filled n p None at e =
      absurd (let number = position_there known.blocks n p at in
      let none : option_map (λ (b : Activation). b.number) None ≡ Some n = ap (option_map (λ b. b.number)) (sym e) ∙ number in cc)
  block_filled n p (Some b) at e = (b.objects, (p, b, at, e, refl, refl))

  values_filled : (n p : ℕ) (o : Option Activation) → position_of known.owns n ≡ Some p → slice_get known.owns p ≡ o
      → (objects : List (List Slot))
      × Replaces known (area.Own n) objects (fill_in objects i k vs) (record (stored_in known) { owns = fill_among known.owns p i k vs o })
  values_filled n p None at e =
      absurd (let number = position_there known.owns n p at in
      let none : option_map (λ (b : Activation). b.number) None ≡ Some n = ap (option_map (λ b. b.number)) (sym e) ∙ number in cc)
  values_filled n p (Some b) at e = (b.objects, (p, b, at, e, refl, refl))

  pub replaced : (a : Area) → is_held (stored_in known) a ≡ true
      → (objects : List (List Slot)) × Replaces known a objects (fill_in objects i k vs) (fill_to (stored_in known) a i k vs)
  replaced area.Globals held = (known.globals, (refl, refl))
  replaced (area.Region n) held = by (region_at known.regions n) refl held
    where
      within : (kept : Kept) (b : Bool) → is_open kept.standing ≡ b → is_still (if b then Some kept.objects else None) ≡ true → is_open kept.standing ≡ true
      within kept true opens still = opens
      within kept false closed still = cc

      by : (o : Option Kept) → region_at known.regions n ≡ o → is_still (open_objects o) ≡ true
          → (objects : List (List Slot))
          × Replaces known (area.Region n) objects (fill_in objects i k vs)
          (record (stored_in known) { regions = slice_set known.regions n (fill_held i k vs o) })
      by None e held = absurd (cc)
      by (Some kept) e held =
          (kept.objects, (kept, held_there known.regions n kept e, within kept (is_open kept.standing) refl held, refl, refl))
  replaced (area.Block n) held = by (position_of known.blocks n) refl held
    where
      by : (o : Option ℕ) → position_of known.blocks n ≡ o → is_found o ≡ true
          → (objects : List (List Slot))
          × Replaces known (area.Block n) objects (fill_in objects i k vs) (record (stored_in known) { blocks = fill_through known.blocks o i k vs })
      by None e held = absurd (cc)
      by (Some p) e held = block_filled n p (slice_get known.blocks p) e refl
  replaced (area.Own n) held = by (position_of known.owns n) refl held
    where
      by : (o : Option ℕ) → position_of known.owns n ≡ o → is_found o ≡ true
          → (objects : List (List Slot))
          × Replaces known (area.Own n) objects (fill_in objects i k vs) (record (stored_in known) { owns = fill_through known.owns o i k vs })
      by None e held = absurd (cc)
      by (Some p) e held = values_filled n p (slice_get known.owns p) e refl

-- the cells of the area's objects
replaced_slots : (known : Known) (a : Area) (objects objects' : List (List Slot)) (after : Stored) → Replaces known a objects objects' after → (i k : ℕ)
    → slot_in (stored_in known) a i k ≡ slot_at objects i k
replaced_slots known area.Globals objects objects' after (same, is) i k = ap (λ os. slot_at os i k) (sym same)
replaced_slots known (area.Region n) objects objects' after (kept, at, opens, same, is) i k =
    ap (λ o. slot_within (open_objects (still_held o)) i k) at ∙ ap (λ b. slot_within (if b then Some kept.objects else None) i k) opens
    ∙ ap (λ os. slot_at os i k) (sym same)
replaced_slots known (area.Block n) objects objects' after (p, b, at, there, same, is) i k =
    ap (λ o. slot_through known.blocks o i k) at ∙ ap (λ o. slot_among o i k) there ∙ ap (λ os. slot_at os i k) (sym same)
replaced_slots known (area.Own n) objects objects' after (p, b, at, there, same, is) i k =
    ap (λ o. slot_through known.owns o i k) at ∙ ap (λ o. slot_among o i k) there ∙ ap (λ os. slot_at os i k) (sym same)

-- after a change of the parts of as many cells as there are values, which gives each its value, all is known as it is stored
module _ (known : Known) (ws : List Wait) (marks : List Mark) (c : Config) (h : Agrees known ws marks c) (p : Place) (vs : List Held)
    (held : is_held (stored_in known) p.area ≡ true)
    (change : Option ℕ → ℕ → Option Part → Option Part) (n : ℕ) (long : length vs ≡ n)
    (none : (j : ℕ) (o : Option Part) → change None j o ≡ o)
    (lying : (q : Option ℕ) (j : ℕ) (o : Option Part) (byte : ℕ) → lies_at (change q j o) byte ≡ lies_at o byte)
    (some : (q j : ℕ) (v : Held) → slice_get vs q ≡ Some v
    → change (Some q) j (part_in (slots_of (stored_in known) p (p.cell + q)) j)
    ≡ part_in (filled_slot (Some v) (slots_of (stored_in known) p (p.cell + q))) j) where
  change_agrees : (parts' : Spot → ℕ → Option Part) → ((t : Spot) (j : ℕ) → parts' t j ≡ change (cells_on n (place_spot p) t) j (c.memory.parts t j))
      → Agrees (with_stored known (fill_to (stored_in known) p.area p.object p.cell vs)) ws marks (with_memory (record c.memory { parts = parts' }) c)
  change_agrees parts' is =
      let (objects, replaces) = replaced known p.object p.cell vs p.area held in
      let after : Stored = fill_to (stored_in known) p.area p.object p.cell vs in
      let shows = replaced_shows known ws marks c h p.area objects (fill_in objects p.object p.cell vs) after replaces in
      let own : (q j : ℕ) (v : Held) → slice_get vs q ≡ Some v
      → change (Some q) j (part_in (slot_at objects p.object (p.cell + q)) j) ≡ part_in (filled_slot (Some v) (slot_at objects p.object (p.cell + q))) j =
      λ q j v e. subst
      (λ (o : Option Slot). change (Some q) j (part_in o j) ≡ part_in (filled_slot (Some v) o) j)
      (replaced_slots known p.area objects (fill_in objects p.object p.cell vs) after replaces p.object (p.cell + q)) (some q j v e) in
      replaced_agrees known ws marks c h parts'
      (λ t byte. ap (λ part. lies_at part byte) (is t 0) ∙ lying (cells_on n (place_spot p) t) 0 (c.memory.parts t 0) byte)
      p.area objects (fill_in objects p.object p.cell vs) after replaces
      (fill_length objects p.object p.cell vs)
      (λ t j other.
      is t j
      ∙ ap (λ b. change (if (b && nat_eq t.object p.object)
      && (nat_le p.cell t.cell && nat_lt t.cell (p.cell + n)) then Some (t.cell - p.cell) else None) j
      (c.memory.parts t j)) other
      ∙ none j (c.memory.parts t j))
      (λ x y j.
      is (spot_of (region_of p.area) x y) j
      ∙ ap (change (cells_on n (place_spot p) (spot_of (region_of p.area) x y)) j) (shows.holds x y j)
      ∙ object_changed change n vs long none objects p.object p.cell own (region_of p.area) x y j)

-- ---- moves

-- whether all three hold that a copy needs
pub all_hold : (a b s : Bool) → a ≡ true → b ≡ true → s ≡ false → (a && (b && not s)) ≡ true
all_hold a b s e f g = rw (e, f, g) refl

pub first_fails : (a b s : Bool) → a ≡ false → (a && (b && not s)) ≡ false
first_fails a b s e = rw e refl

pub second_fails : (a b s : Bool) → b ≡ false → (a && (b && not s)) ≡ false
second_fails a b s e = ap (λ t. a && (t && not s)) e ∙ and-false a

pub third_fails : (a b s : Bool) → s ≡ true → (a && (b && not s)) ≡ false
third_fails a b s e = ap (λ t. a && (b && not t)) e ∙ ap (λ t. a && t) (and-false b) ∙ and-false a

module _ (known : Known) (ws : List Wait) (x : ℕ) (u : Value) (read : content_of u ≡ temp_of known.temps x) (p : Place) (is : u ≡ value.Pointer p)
    (l : code.Layout) where
  abbrev cs : List CellLayout
  cs = l.cells.items

  abbrev tree : Layout
  tree = layout_tree l

  -- ---- a copy

  module _ (y : ℕ) (v : Value) (read_from : content_of v ≡ temp_of known.temps y) (q : Place) (is_from : v ≡ value.Pointer q) where
    abbrev copies : Memory → Config → (Config → Step) → Content → Content → Step
    copies m c next z w = pointer_of z (λ s b. pointer_of w (λ t e.
        checked (is_there m tree s b && (is_there m tree t e && not (operations.same_object s t))) (next (with_memory (copied tree s t m) c))))

    -- whether a copy is done
    abbrev pub can_copy : Bool
    can_copy = are_laid (stored_in known) p cs && (are_laid (stored_in known) q cs && not (same_object p q))

    copies_is : (marks : List Mark) (c : Config) → Agrees known ws marks c → (next : Config → Step)
        → copies c.memory c next (c.temps x) (c.temps y)
        ≡ checked can_copy (next (with_memory (copied tree (place_spot p) (place_spot q) c.memory) c))
    copies_is marks c h next =
        ap (λ z. copies c.memory c next z (c.temps y)) (h.temps x ∙ sym read ∙ ap content_of is)
        ∙ ap (copies c.memory c next (content_of (value.Pointer p))) (h.temps y ∙ sym read_from ∙ ap content_of is_from)
        ∙ ap (λ b. checked (b && (is_there c.memory tree (place_spot q) q.byte && not (operations.same_object (place_spot p) (place_spot q))))
        (next (with_memory (copied tree (place_spot p) (place_spot q) c.memory) c)))
        (laid_is known ws marks c h p cs l.bytes)
        ∙ ap (λ b. checked (are_laid (stored_in known) p cs && (b && not (operations.same_object (place_spot p) (place_spot q))))
        (next (with_memory (copied tree (place_spot p) (place_spot q) c.memory) c)))
        (laid_is known ws marks c h q cs l.bytes)
        ∙ ap (λ b. checked (are_laid (stored_in known) p cs && (are_laid (stored_in known) q cs && not (b && nat_eq p.object q.object)))
        (next (with_memory (copied tree (place_spot p) (place_spot q) c.memory) c)))
        (same_regions p.area q.area)

    abbrev pub copied_values : List Held
    copied_values = values_from (slots_of (stored_in known) q) q.cell cs

    copied_agrees : (marks : List Mark) (c : Config) → Agrees known ws marks c → are_laid (stored_in known) p cs ≡ true
        → are_laid (stored_in known) q cs ≡ true → are_alike (slots_of (stored_in known) p) p.cell cs ≡ true
        → are_alike (slots_of (stored_in known) q) q.cell cs ≡ true
        → Agrees (with_stored known (fill_to (stored_in known) p.area p.object p.cell copied_values)) ws marks
        (with_memory (copied tree (place_spot p) (place_spot q) c.memory) c)
    copied_agrees marks c h laid laid_from alike alike_from =
        change_agrees known ws marks c h p copied_values (and_parts _ _ laid).0
        (λ k j o. copied_by o (part_of tree k j) (c.memory.parts (on_from (place_spot q) k) j))
        (length tree.cells) (values_long (slots_of (stored_in known) q) cs q.cell)
        (λ j o. unchanged o (c.memory.parts (place_spot q) j))
        (λ k j o byte. copied_lies o (part_of tree k j) (c.memory.parts (on_from (place_spot q) k) j) byte)
        one
        (copied tree (place_spot p) (place_spot q) c.memory).parts
        (λ t j. copied_part tree c.memory (place_spot p) (place_spot q) t j (c.memory.parts t j)
        (part_of tree (cells_on (length tree.cells) (place_spot p) t) j)
        refl refl)
      where
        unchanged : (o : Option Part) (w : Option Part) → copied_by o None w ≡ o
        unchanged None w = refl
        unchanged (Some z) w = refl

        one : (n j : ℕ) (w : Held) → slice_get copied_values n ≡ Some w
            → copied_by (part_in (slots_of (stored_in known) p (p.cell + n)) j) (part_of tree (Some n) j)
            (c.memory.parts (on_from (place_spot q) (Some n)) j)
            ≡ part_in (filled_slot (Some w) (slots_of (stored_in known) p (p.cell + n))) j
        one n j w e =
            let o : Option Slot = slots_of (stored_in known) p (p.cell + n) in
            let (d, at, same) = values_at (slots_of (stored_in known) q) cs q.cell n w e in
            let (held, cells) = and_parts _ _ laid_from in
            let cells_to = (and_parts (is_held (stored_in known) p.area) (are_cells (slots_of (stored_in known) p) p.cell p.byte cs) laid).1 in
            ap (λ (z : Option PartShape). copied_by (part_in o j) z (c.memory.parts (on_from (place_spot q) (Some n)) j))
            (ap (λ z. shape_in z j) (cell_at cs n d at))
            ∙ ap (copied_by (part_in o j) (slice_get (cell_parts d) j)) (held_part known ws marks c h q.area q.object (q.cell + n) j held)
            ∙ cell_copied o d (slots_of (stored_in known) q (q.cell + n)) p.byte q.byte j
            (alike_there (slots_of (stored_in known) p) cs p.cell n d alike at)
            (alike_there (slots_of (stored_in known) q) cs q.cell n d alike_from at)
            (cell_there (slots_of (stored_in known) p) p.byte cs p.cell n d cells_to at)
            (cell_there (slots_of (stored_in known) q) q.byte cs q.cell n d cells at)
            ∙ ap (λ z. part_in (filled_slot (Some z) o) j) (sym same)

    pub copy_moves : (after : Stored) → (AreInOrder known → can_copy ≡ true)
        → (AreInOrder known → are_alike (slots_of (stored_in known) p) p.cell cs ≡ true)
        → (AreInOrder known → are_alike (slots_of (stored_in known) q) q.cell cs ≡ true)
        → (AreInOrder known → after ≡ fill_to (stored_in known) p.area p.object p.cell copied_values)
        → IsMove (Execute (core.Do (core.Copy x y tree))) ws known (Go (Leave steps.Falls)) ws (with_stored known after)
    copy_moves after can alike alike_from gives = record {
      still = all_stand _ ws known _ ws (with_stored known after) (λ main marks c h.
          let ok = can (ordered known ws marks c h) in
          let (laid, others) = and_parts _ _ ok in
          let (laid_from, apart) = and_parts _ _ others in
          goes_here main marks (with_memory (copied tree (place_spot p) (place_spot q) c.memory) c) _ _ ws (with_stored known after)
          (subst
          (λ (s : Stored). Agrees (with_stored known s) ws marks (with_memory (copied tree (place_spot p) (place_spot q) c.memory) c))
          (sym (gives (ordered known ws marks c h))) (copied_agrees marks c h laid laid_from
          (alike (ordered known ws marks c h)) (alike_from (ordered known ws marks c h))))
          (copies_is marks c h (rest_of main ws marks steps.Falls)
          ∙ ap (λ b. checked b (rest_of main ws marks steps.Falls (with_memory (copied tree (place_spot p) (place_spot q) c.memory) c))) ok));
      fewer = omega arith;
    }

    pub copy_wrong : (AreInOrder known → can_copy ≡ false) → IsMove (Execute (core.Do (core.Copy x y tree))) ws known Wrong ws known
    copy_wrong cannot =
        goes_wrong (core.Copy x y tree) ws known (λ marks c h next.
        copies_is marks c h next
        ∙ ap (λ b. checked b (next (with_memory (copied tree (place_spot p) (place_spot q) c.memory) c))) (cannot (ordered known ws marks c h)))

  -- ---- a clearing

  module _ (count : ℕ) where
    abbrev clears : Memory → Config → (Config → Step) → Content → Step
    clears m c next z = pointer_of z (λ s b.
        checked (is_live (m.standing s.region) && are_elements m s b tree count) (next (with_memory (cleared tree count s m) c)))

    clears_is : (marks : List Mark) (c : Config) → Agrees known ws marks c → (next : Config → Step)
        → clears c.memory c next (c.temps x)
        ≡ checked (has_elements (stored_in known) p l count) (next (with_memory (cleared tree count (place_spot p) c.memory) c))
    clears_is marks c h next =
        ap (clears c.memory c next) (h.temps x ∙ sym read ∙ ap content_of is)
        ∙ ap (λ b. checked b (next (with_memory (cleared tree count (place_spot p) c.memory) c))) (elements_is known ws marks c h p l count)

    cleared_agrees : (marks : List Mark) (c : Config) → Agrees known ws marks c → has_elements (stored_in known) p l count ≡ true
        → elements_alike (slots_of (stored_in known) p) p.cell cs count ≡ true
        → Agrees (with_stored known (fill_to (stored_in known) p.area p.object p.cell (first_elements cs count))) ws marks
        (with_memory (cleared tree count (place_spot p) c.memory) c)
    cleared_agrees marks c h laid alike =
        change_agrees known ws marks c h p (first_elements cs count) (and_parts _ _ laid).0
        (λ k j o. cleared_by o (part_of tree (in_element tree k) j))
        (count * length tree.cells)
        (first_long cs 0 count ∙ ap (λ n. count * n) (sym (length-map cs cell_parts)))
        (λ j o. unchanged o)
        (λ k j o byte. cleared_lies o (part_of tree (in_element tree k) j) byte)
        one
        (cleared tree count (place_spot p) c.memory).parts
        (λ t j. cleared_part tree c.memory (place_spot p) count t j (c.memory.parts t j) refl)
      where
        unchanged : (o : Option Part) → cleared_by o None ≡ o
        unchanged None = refl
        unchanged (Some z) = refl

        one : (n j : ℕ) (w : Held) → slice_get (first_elements cs count) n ≡ Some w
            → cleared_by (part_in (slots_of (stored_in known) p (p.cell + n)) j) (part_of tree (in_element tree (Some n)) j)
            ≡ part_in (filled_slot (Some w) (slots_of (stored_in known) p (p.cell + n))) j
        one n j w e =
            let o : Option Slot = slots_of (stored_in known) p (p.cell + n) in
            let f = first_at cs count n w e in
            let elements =
            (and_parts (is_held (stored_in known) p.area) (whole.are_elements (slots_of (stored_in known) p) p.cell p.byte cs l.bytes count) laid).1 in
            let element = n / length cs in
            let whole : element * length cs + n % length cs ≡ n = div-add-mod' n (length cs) in
            let at : p.cell + element * length cs + n % length cs ≡ p.cell + n = omega (arith, whole) in
            let laid_there : is_cell o (p.byte + element * l.bytes) f.cell ≡ true =
            sym (ap (λ k. is_cell (slots_of (stored_in known) p k) (p.byte + element * l.bytes) f.cell) at)
            ∙ cell_there (slots_of (stored_in known) p) (p.byte + element * l.bytes) cs (p.cell + element * length cs) (n % length cs) f.cell
            (element_laid (slots_of (stored_in known) p) cs l.bytes count element p.cell p.byte f.within elements) f.there in
            let alike_here : is_alike o f.cell ≡ true =
            sym (ap (λ k. is_alike (slots_of (stored_in known) p k) f.cell) at)
            ∙ alike_there (slots_of (stored_in known) p) cs (p.cell + element * length cs) (n % length cs) f.cell
            (element_alike (slots_of (stored_in known) p) cs count element p.cell f.within alike) f.there in
            ap (λ k. cleared_by (part_in o j) (shape_in (slice_get tree.cells (n % k)) j)) (length-map cs cell_parts)
            ∙ ap (λ (z : Option (List PartShape)). cleared_by (part_in o j) (shape_in z j)) (cell_at cs (n % length cs) f.cell f.there)
            ∙ cell_cleared o f.cell (p.byte + element * l.bytes) j alike_here laid_there ∙ ap (λ z. part_in (filled_slot (Some z) o) j) (sym f.value)

    pub clear_moves : (after : Stored) → (AreInOrder known → has_elements (stored_in known) p l count ≡ true)
        → (AreInOrder known → elements_alike (slots_of (stored_in known) p) p.cell cs count ≡ true)
        → (AreInOrder known → after ≡ fill_to (stored_in known) p.area p.object p.cell (first_elements cs count))
        → IsMove (Execute (core.Do (core.Clear x tree count))) ws known (Go (Leave steps.Falls)) ws (with_stored known after)
    clear_moves after laid alike gives = record {
      still = all_stand _ ws known _ ws (with_stored known after) (λ main marks c h.
          goes_here main marks (with_memory (cleared tree count (place_spot p) c.memory) c) _ _ ws (with_stored known after)
          (subst (λ (s : Stored). Agrees (with_stored known s) ws marks (with_memory (cleared tree count (place_spot p) c.memory) c))
          (sym (gives (ordered known ws marks c h))) (cleared_agrees marks c h (laid (ordered known ws marks c h)) (alike (ordered known ws marks c h))))
          (clears_is marks c h (rest_of main ws marks steps.Falls)
          ∙ ap (λ b. checked b (rest_of main ws marks steps.Falls (with_memory (cleared tree count (place_spot p) c.memory) c)))
          (laid (ordered known ws marks c h))));
      fewer = omega arith;
    }

    pub clear_wrong : (AreInOrder known → has_elements (stored_in known) p l count ≡ false)
        → IsMove (Execute (core.Do (core.Clear x tree count))) ws known Wrong ws known
    clear_wrong unlaid =
        goes_wrong (core.Clear x tree count) ws known (λ marks c h next.
        clears_is marks c h next
        ∙ ap (λ b. checked b (next (with_memory (cleared tree count (place_spot p) c.memory) c))) (unlaid (ordered known ws marks c h)))
