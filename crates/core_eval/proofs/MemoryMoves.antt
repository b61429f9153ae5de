-- What the evaluator reads of locals and globals, and what it knows of pointers, as Core does it.
use Rattle.std.specs.Prelude.{if◌then◌else◌, slice_get, nat_eq, ◌&&◌, option_map}
use Rattle.std.proofs.Common.{◌≡◌, ℕ, suc, ◌+◌, Bool, true, false, Option, Some, None, List, ◌∷◌, refl, ap, ◌∙◌, sym, subst}
use Rattle.std.proofs.Math.Dec.{eqb-suc-suc, eqb-zero-suc, eqb-suc-zero}
use Rattle.core_meaning.specs.Memory as memory
use Rattle.core_meaning.specs.Memory.{Region, Frame, Own, Born, Content, Pointer, Part, Spot, is_live, part_at, same_spot, same_region}
use Rattle.core_meaning.specs.Core as core
use Rattle.core_meaning.specs.Words.{truth}
use Rattle.core_meaning.specs.Steps as steps
use Rattle.core_meaning.specs.Steps.{Config, with_temp, Step, stuck, needed, checked, pointer_of}
use Rattle.core_meaning.specs.Operations.{does, reached, at_once, local_spot, same_place}
use Rattle.cyc_core.specs.declared.operation.Width.{Width}
use Rattle.cyc_core.specs.declared.operation.Distance.{Distance}
use Rattle.cyc_core.specs.Trees.{bytes_of, distance_tree}
use Rattle.core_eval.specs.declared.value.Area.{Area}
use Rattle.core_eval.specs.declared.value.Area.TheVariants as area
use Rattle.core_eval.specs.declared.value.Place.{Place}
use Rattle.core_eval.specs.declared.value.Value.{Value}
use Rattle.core_eval.specs.declared.value.Value.TheVariants as value
use Rattle.core_eval.specs.declared.value.Slot.{Slot}
use Rattle.core_eval.specs.Values.{region_of, spot_of, place_spot, content_of, temp_of, part_in, slot_at, Shows, values_in, is_fit, is_kept, value_of}
use Rattle.core_eval.specs.Values.{same_area, same_cell}
use Rattle.core_eval.specs.Regions.{Kept, region_at, live_at, is_open, open_objects, slot_within}
use Rattle.core_eval.specs.Blocks.{
  Activation,
  Descends,
  position_of,
  own_position,
  number_through,
  slot_among,
  slot_through,
  slot_in,
  local_slot,
  local_place,
  local_address,
  own_address,
  is_there,
  same_places,
  same_with,
  same_values,
}
use Rattle.core_eval.specs.Pendings.{Execute, Leave, Wait, Go, Wrong, Mark}
use Rattle.core_eval.specs.Standing.{Known, Agrees, ShowsKept, ShowsBlocks, Gives}
use Rattle.core_eval.specs.Costs.{IsMove}
use Rattle.core_eval.proofs.Memories.{found_step, found, reached_at, shown_part}
use Rattle.core_eval.proofs.Born.{open_is, kept_shows}
use Rattle.core_eval.proofs.Owned.{owned_first, owned_descends, owned_shows}
use Rattle.core_eval.proofs.Changes.{stored_in}
use Rattle.core_eval.proofs.Nested.{nested_descends, nested_shows, nested_own, position_there}
use Rattle.core_eval.proofs.Moves.{goes_wrong}
use Rattle.core_eval.proofs.OperationMoves.{given, given_moves, null_step, null_is}

-- ---- what is known of a state

-- the numbers of blocks and of functions fall
abbrev pub AreInOrder : Known → Type 0
AreInOrder known = Descends known.entered known.blocks × Descends known.called known.owns

module _ (known : Known) (ws : List Wait) (marks : List Mark) (c : Config) (h : Agrees known ws marks c) where
  pub ordered : AreInOrder known
  ordered = (
    subst (λ (n : ℕ). Descends n known.blocks) (sym h.entered)
        (nested_descends c.memory c.memory.activations c.blocks known.base known.blocks ws marks h.nested),
    subst (λ (n : ℕ). Descends n known.owns) (sym h.called) (owned_descends c.memory c.memory.calls c.own known.owns ws marks h.owned),
  )

  pub shown_values : (p : ℕ) (b : Activation) → slice_get known.owns p ≡ Some b → Shows c.memory (Own b.number) b.objects
  shown_values p b at = (owned_shows c.memory c.memory.calls c.own known.owns ws marks p b h.owned at).1

  pub shown : (p : ℕ) (b : Activation) → slice_get known.blocks p ≡ Some b → Shows c.memory (Frame b.number) b.objects
  shown p b at = (nested_shows c.memory c.memory.activations c.blocks known.base known.blocks ws marks p b h.nested at).1

  pub own_number : (out : ℕ) → slice_get c.blocks out ≡ number_through known.blocks (own_position known.base known.blocks out)
  own_number out = nested_own c.memory c.memory.activations c.blocks known.base known.blocks ws marks out h.nested

-- ---- reading

-- what comes of a cell, where there is one
abbrev pub value_step : (Content → Step) → Option Value → Step
value_step next None = stuck
value_step next (Some v) = next (content_of v)

value_wide : (b : Bool) (s : Slot) (j : ℕ) (o : Option Value) (next : Content → Step)
    → (if b then found_step s j (λ p. next p.content) o else stuck) ≡ value_step next (if b then o else None)
value_wide true s j None next = refl
value_wide true s j (Some v) next = refl
value_wide false s j o next = refl

found_value : (o : Option Slot) (byte j : ℕ) (w : Width) (next : Content → Step)
    → found byte j w (λ p. next p.content) o ≡ value_step next (value_of byte j w o)
found_value None byte j w next = refl
found_value (Some s) byte j w next = value_wide (is_fit byte j w s) s j (slice_get (values_in s.held) j) next

module _ (known : Known) (ws : List Wait) (marks : List Mark) (c : Config) (h : Agrees known ws marks c) where
  -- a part of the block that stands there
  pub through_part : (n p i k j : ℕ) → number_through known.blocks (Some p) ≡ Some n
      → part_at c.memory (spot_of (Frame n) i k) j ≡ part_in (slot_through known.blocks (Some p) i k) j
  through_part n p i k j is = by (slice_get known.blocks p) refl is
    where
      by : (o : Option Activation) → slice_get known.blocks p ≡ o → option_map (λ b. b.number) o ≡ Some n
          → part_at c.memory (spot_of (Frame n) i k) j ≡ part_in (slot_among o i k) j
      by None at e = cc
      by (Some b) at e =
          let same : b.number ≡ n = cc in
          subst (λ (x : ℕ). part_at c.memory (spot_of (Frame x) i k) j ≡ part_in (slot_at b.objects i k) j) same
          (shown_part (shown known ws marks c h p b at) i k j)

  -- a part of a block by its number
  number_part : (n i k j : ℕ) → part_at c.memory (spot_of (Frame n) i k) j ≡ part_in (slot_through known.blocks (position_of known.blocks n) i k) j
  number_part n i k j = by (position_of known.blocks n) refl
    where
      by : (o : Option ℕ) → position_of known.blocks n ≡ o → part_at c.memory (spot_of (Frame n) i k) j ≡ part_in (slot_through known.blocks o i k) j
      by None e = ap (λ b. if b then c.memory.parts (spot_of (Frame n) i k) j else None) (h.live n e)
      by (Some p) e = through_part n p i k j (position_there known.blocks n p e)

  -- a part of a function's temporary object
  value_part : (n i k j : ℕ) → part_at c.memory (spot_of (Own n) i k) j ≡ part_in (slot_through known.owns (position_of known.owns n) i k) j
  value_part n i k j = by (position_of known.owns n) refl
    where
      there : (p : ℕ) (o : Option Activation) → slice_get known.owns p ≡ o → option_map (λ b. b.number) o ≡ Some n
          → part_at c.memory (spot_of (Own n) i k) j ≡ part_in (slot_among o i k) j
      there p None at e = cc
      there p (Some b) at e =
          let same : b.number ≡ n = cc in
          subst (λ (x : ℕ). part_at c.memory (spot_of (Own x) i k) j ≡ part_in (slot_at b.objects i k) j) same
          (shown_part (shown_values known ws marks c h p b at) i k j)

      by : (o : Option ℕ) → position_of known.owns n ≡ o → part_at c.memory (spot_of (Own n) i k) j ≡ part_in (slot_through known.owns o i k) j
      by None e = ap (λ b. if b then c.memory.parts (spot_of (Own n) i k) j else None) (h.values_live n e)
      by (Some p) e = there p (slice_get known.owns p) refl (position_there known.owns n p e)

  -- a part of a block of a region
  region_part : (n i k j : ℕ) → part_at c.memory (spot_of (Born (suc n)) i k) j ≡ part_in (slot_within (live_at known.regions n) i k) j
  region_part n i k j = by (region_at known.regions n) (h.born.each n)
    where
      reached : (kept : Kept) (b : Bool) → is_open kept.standing ≡ b → ShowsKept c.memory (Born (suc n)) kept
          → part_at c.memory (spot_of (Born (suc n)) i k) j ≡ part_in (slot_within (if b then Some kept.objects else None) i k) j
      reached kept true opens shows = shown_part (kept_shows c.memory (Born (suc n)) kept shows opens) i k j
      reached kept false closed shows =
          ap (λ b. if b then c.memory.parts (spot_of (Born (suc n)) i k) j else None) (ap is_live shows.standing ∙ open_is kept.standing ∙ closed)

      by : (held : Option Kept) → ShowsBlocks c.memory (Born (suc n)) held
          → part_at c.memory (spot_of (Born (suc n)) i k) j ≡ part_in (slot_within (open_objects held) i k) j
      by None dead = ap (λ now. if is_live now then c.memory.parts (spot_of (Born (suc n)) i k) j else None) dead
      by (Some kept) shows = reached kept (is_open kept.standing) refl shows

  -- a part of an object of an area
  pub area_part : (a : Area) (i k j : ℕ) → part_at c.memory (spot_of (region_of a) i k) j ≡ part_in (slot_in (stored_in known) a i k) j
  area_part area.Globals i k j = shown_part h.globals i k j
  area_part (area.Region n) i k j = region_part n i k j
  area_part (area.Block n) i k j = number_part n i k j
  area_part (area.Own n) i k j = value_part n i k j

  -- what is reached from a place on
  pub placed : (p : Place) (d : Distance) (next : Spot → Part → Step) → is_kept d.part d.width ≡ true
      → reached c.memory (distance_tree d) (place_spot p) p.byte next
      ≡ found (p.byte + d.bytes) d.part d.width (next (spot_of (region_of p.area) p.object (p.cell + d.cells)))
      (slot_in (stored_in known) p.area p.object (p.cell + d.cells))
  placed p d next kept =
      reached_at c.memory (region_of p.area) p.object p.cell p.byte d.cells d.bytes d.part (slot_in (stored_in known) p.area p.object (p.cell + d.cells))
      d.width next kept (area_part p.area p.object (p.cell + d.cells) d.part)

  pub own_is : (out i : ℕ) (w : Width) (next : Spot → Part → Step)
      → needed (slice_get c.blocks out) (λ k. reached c.memory (at_once (bytes_of w)) (local_spot k i) 0 next)
      ≡ needed (number_through known.blocks (own_position known.base known.blocks out)) (λ k.
      found 0 0 w (next (local_spot k i)) (local_slot known.base known.blocks out i))
  own_is out i w next =
      ap (λ n. needed n (λ k. reached c.memory (at_once (bytes_of w)) (local_spot k i) 0 next)) (own_number known ws marks c h out)
      ∙ by (own_position known.base known.blocks out)
    where
      within : (p : ℕ) (n : Option ℕ) → number_through known.blocks (Some p) ≡ n
          → needed n (λ k. reached c.memory (at_once (bytes_of w)) (local_spot k i) 0 next)
          ≡ needed n (λ k. found 0 0 w (next (local_spot k i)) (slot_through known.blocks (Some p) i 0))
      within p None e = refl
      within p (Some n) e = reached_at c.memory (Frame n) i 0 0 0 0 0 (slot_through known.blocks (Some p) i 0) w next refl (through_part n p i 0 0 e)

      by : (o : Option ℕ) → needed (number_through known.blocks o) (λ k. reached c.memory (at_once (bytes_of w)) (local_spot k i) 0 next)
          ≡ needed (number_through known.blocks o) (λ k. found 0 0 w (next (local_spot k i)) (slot_through known.blocks o i 0))
      by None = refl
      by (Some p) = within p (number_through known.blocks (Some p)) refl

  -- what a local holds
  own_value : (out i : ℕ) (w : Width) (next : Content → Step)
      → needed (slice_get c.blocks out) (λ k. reached c.memory (at_once (bytes_of w)) (local_spot k i) 0 (λ there p. next p.content))
      ≡ value_step next (value_of 0 0 w (local_slot known.base known.blocks out i))
  own_value out i w next = own_is out i w (λ there p. next p.content) ∙ by (own_position known.base known.blocks out)
    where
      among : (o : Option Activation)
          → needed (option_map (λ b. b.number) o) (λ k. found 0 0 w (λ p. next p.content) (slot_among o i 0))
          ≡ value_step next (value_of 0 0 w (slot_among o i 0))
      among None = refl
      among (Some b) = found_value (slot_at b.objects i 0) 0 0 w next

      by : (o : Option ℕ) → needed (number_through known.blocks o) (λ k. found 0 0 w (λ p. next p.content) (slot_through known.blocks o i 0))
          ≡ value_step next (value_of 0 0 w (slot_through known.blocks o i 0))
      by None = refl
      by (Some p) = among (slice_get known.blocks p)

-- ---- pointers compared

-- two parts, each at its pointer's byte
abbrev both_step : ℕ → ℕ → Option Part → Option Part → Step → Step
both_step b e o p next = needed o (λ x. needed p (λ y. checked (nat_eq x.offset b && nat_eq y.offset e) next))

checked_both : (both same : Bool) (next : ℕ → Step) → checked both (next (truth same)) ≡ null_step next (if both then Some same else None)
checked_both true same next = refl
checked_both false same next = refl

none_there : (b : Bool) (same : Bool) (next : ℕ → Step) → stuck ≡ null_step next (if b && false then Some same else None)
none_there true same next = refl
none_there false same next = refl

both_is : (b e : ℕ) (o p : Option Slot) (same : Bool) (next : ℕ → Step)
    → both_step b e (part_in o 0) (part_in p 0) (next (truth same)) ≡ null_step next (if is_there b o && is_there e p then Some same else None)
both_is b e None p same next = refl
both_is b e (Some x) None same next = none_there (nat_eq x.offset b) same next
both_is b e (Some x) (Some y) same next = checked_both (nat_eq x.offset b && nat_eq y.offset e) same next

pub same_regions : (a e : Area) → same_region (region_of a) (region_of e) ≡ same_area a e
same_regions area.Globals area.Globals = refl
same_regions area.Globals (area.Region n) = eqb-zero-suc n
same_regions (area.Region n) area.Globals = eqb-suc-zero n
same_regions (area.Region n) (area.Region l) = eqb-suc-suc n l
same_regions (area.Region n) (area.Block k) = refl
same_regions (area.Region n) (area.Own k) = refl
same_regions area.Globals (area.Block k) = refl
same_regions area.Globals (area.Own k) = refl
same_regions (area.Block k) area.Globals = refl
same_regions (area.Block k) (area.Region n) = refl
same_regions (area.Block k) (area.Block l) = refl
same_regions (area.Block k) (area.Own l) = refl
same_regions (area.Own k) area.Globals = refl
same_regions (area.Own k) (area.Region n) = refl
same_regions (area.Own k) (area.Block l) = refl
same_regions (area.Own k) (area.Own l) = refl

module _ (known : Known) (ws : List Wait) (marks : List Mark) (c : Config) (h : Agrees known ws marks c) where
  abbrev to_slot : Place → Option Slot
  to_slot p = slot_in (stored_in known) p.area p.object p.cell

  two_places : (p q : Place) (next : ℕ → Step)
      → same_place c.memory (content_of (value.Pointer p)) (content_of (value.Pointer q)) next
      ≡ null_step next (same_places (stored_in known) p q)
  two_places p q next =
      ap (λ o. both_step p.byte q.byte o (part_at c.memory (place_spot q) 0) (next (truth (same_spot (place_spot p) (place_spot q)))))
      (area_part known ws marks c h p.area p.object p.cell 0)
      ∙ ap (λ o. both_step p.byte q.byte (part_in (to_slot p) 0) o (next (truth (same_spot (place_spot p) (place_spot q)))))
      (area_part known ws marks c h q.area q.object q.cell 0)
      ∙ ap (λ b. both_step p.byte q.byte (part_in (to_slot p) 0) (part_in (to_slot q) 0)
      (next (truth (b && (nat_eq p.object q.object && nat_eq p.cell q.cell))))) (same_regions p.area q.area)
      ∙ both_is p.byte q.byte (to_slot p) (to_slot q) (same_cell p q) next

  place_with : (p : Place) (v : Value) (next : ℕ → Step)
      → same_place c.memory (content_of (value.Pointer p)) (content_of v) next ≡ null_step next (same_with (stored_in known) p v)
  place_with p value.Blank next = refl
  place_with p (value.Word n) next = refl
  place_with p value.Null next = refl
  place_with p (value.Pointer q) next = two_places p q next
  place_with p (value.Birth d) next = refl

  same_is : (u v : Value) (next : ℕ → Step)
      → same_place c.memory (content_of u) (content_of v) next ≡ null_step next (same_values (stored_in known) u v)
  same_is value.Blank v next = refl
  same_is (value.Word n) v next = refl
  same_is value.Null v next = null_is v next
  same_is (value.Pointer p) v next = place_with p v next
  same_is (value.Birth d) v next = refl

module _ (known : Known) (ws : List Wait) where
  got : (t out i : ℕ) (w : Width) (marks : List Mark) (c : Config) → Agrees known ws marks c → (next : Config → Step)
      → does (core.Get t out i (bytes_of w)) next c ≡ value_step (λ u. next (with_temp t u c)) (value_of 0 0 w (local_slot known.base known.blocks out i))
  got t out i w marks c h next = own_value known ws marks c h out i w (λ u. next (with_temp t u c))

  pub get_moves : (temps : List Value) (t out i : ℕ) (w : Width) (v : Value) → value_of 0 0 w (local_slot known.base known.blocks out i) ≡ Some v
      → Gives t (content_of v) known.temps temps
      → IsMove (Execute (core.Do (core.Get t out i (bytes_of w)))) ws known (Go (Leave steps.Falls)) ws (given known temps)
  get_moves temps t out i w v is gives =
      given_moves known temps ws (core.Get t out i (bytes_of w)) t (content_of v) gives
      (λ marks c h next. got t out i w marks c h next ∙ ap (value_step (λ u. next (with_temp t u c))) is)

  pub get_wrong : (t out i : ℕ) (w : Width) → value_of 0 0 w (local_slot known.base known.blocks out i) ≡ None
      → IsMove (Execute (core.Do (core.Get t out i (bytes_of w)))) ws known Wrong ws known
  get_wrong t out i w is =
      goes_wrong (core.Get t out i (bytes_of w)) ws known
      (λ marks c h next. got t out i w marks c h next ∙ ap (value_step (λ u. next (with_temp t u c))) is)

  -- ---- a pointer to a local

  addressed : (n : Option ℕ) (i : ℕ) (next : Content → Step)
      → needed n (λ k. next (Pointer (local_spot k i) 0)) ≡ value_step next (option_map (λ k. value.Pointer (local_place k i)) n)
  addressed None i next = refl
  addressed (Some k) i next = refl

  taken : (t out i : ℕ) (marks : List Mark) (c : Config) → Agrees known ws marks c → (next : Config → Step)
      → does (core.LocalAddress t out i) next c ≡ value_step (λ u. next (with_temp t u c)) (local_address known.base known.blocks out i)
  taken t out i marks c h next =
      ap (λ n. needed n (λ k. next (with_temp t (Pointer (local_spot k i) 0) c))) (own_number known ws marks c h out)
      ∙ addressed (number_through known.blocks (own_position known.base known.blocks out)) i (λ u. next (with_temp t u c))

  pub place_moves : (temps : List Value) (t out i : ℕ) (v : Value) → local_address known.base known.blocks out i ≡ Some v
      → Gives t (content_of v) known.temps temps
      → IsMove (Execute (core.Do (core.LocalAddress t out i))) ws known (Go (Leave steps.Falls)) ws (given known temps)
  place_moves temps t out i v is gives =
      given_moves known temps ws (core.LocalAddress t out i) t (content_of v) gives
      (λ marks c h next. taken t out i marks c h next ∙ ap (value_step (λ u. next (with_temp t u c))) is)

  pub place_wrong : (t out i : ℕ) → local_address known.base known.blocks out i ≡ None
      → IsMove (Execute (core.Do (core.LocalAddress t out i))) ws known Wrong ws known
  place_wrong t out i is =
      goes_wrong (core.LocalAddress t out i) ws known
      (λ marks c h next. taken t out i marks c h next ∙ ap (value_step (λ u. next (with_temp t u c))) is)

  -- ---- a pointer to a temporary object

  -- what it is in each state
  own_is_known : (i : ℕ) (v : Value) → own_address known.owns i ≡ Some v → (marks : List Mark) (c : Config) → Agrees known ws marks c
      → Pointer (spot_of (Own c.own) i 0) 0 ≡ content_of v
  own_is_known i v is marks c h =
      let f = owned_first c.memory c.memory.calls c.own known.owns ws marks h.owned in
      let there : own_address (f.first ∷ f.others) i ≡ Some v = ap (λ os. own_address os i) (sym f.are) ∙ is in
      let same : value.Pointer (record { area = area.Own f.first.number; object = i; byte = 0; cell = 0 }) ≡ v = cc in
      ap (λ k. Pointer (spot_of (Own k) i 0) 0) f.number ∙ ap content_of same

  pub own_moves : (temps : List Value) (t i : ℕ) (v : Value) → own_address known.owns i ≡ Some v → Gives t (content_of v) known.temps temps
      → IsMove (Execute (core.Do (core.OwnAddress t i))) ws known (Go (Leave steps.Falls)) ws (given known temps)
  own_moves temps t i v is gives =
      given_moves known temps ws (core.OwnAddress t i) t (content_of v) gives
      (λ marks c h next. ap (λ u. next (with_temp t u c)) (own_is_known i v is marks c h))

  pub own_wrong : (t i : ℕ) → own_address known.owns i ≡ None → IsMove (Execute (core.Do (core.OwnAddress t i))) ws known Wrong ws known
  own_wrong t i is =
      goes_wrong (core.OwnAddress t i) ws known (λ marks c h next.
      let f = owned_first c.memory c.memory.calls c.own known.owns ws marks h.owned in
      let none : own_address (f.first ∷ f.others) i ≡ None = ap (λ os. own_address os i) (sym f.are) ∙ is in
      absurd (cc))

  -- ---- through a pointer

  module _ (x : ℕ) (v : Value) (read : content_of v ≡ temp_of known.temps x) (p : Place) (is_place : v ≡ value.Pointer p) where
    loaded : (t : ℕ) (d : Distance) → is_kept d.part d.width ≡ true → (marks : List Mark) (c : Config) → Agrees known ws marks c → (next : Config → Step)
        → does (core.Load t x (distance_tree d)) next c
        ≡ value_step (λ u. next (with_temp t u c))
        (value_of (p.byte + d.bytes) d.part d.width (slot_in (stored_in known) p.area p.object (p.cell + d.cells)))
    loaded t d kept marks c h next =
        ap (λ (u : Content). pointer_of u (λ s b. reached c.memory (distance_tree d) s b (λ there part. next (with_temp t part.content c))))
        (h.temps x ∙ sym read ∙ ap content_of is_place)
        ∙ placed known ws marks c h p d (λ there part. next (with_temp t part.content c)) kept
        ∙ found_value (slot_in (stored_in known) p.area p.object (p.cell + d.cells)) (p.byte + d.bytes) d.part d.width (λ u. next (with_temp t u c))

    pub load_moves : (temps : List Value) (t : ℕ) (d : Distance) (u : Value) → is_kept d.part d.width ≡ true
        → (AreInOrder known
        → value_of (p.byte + d.bytes) d.part d.width (slot_in (stored_in known) p.area p.object (p.cell + d.cells)) ≡ Some u)
        → Gives t (content_of u) known.temps temps
        → IsMove (Execute (core.Do (core.Load t x (distance_tree d)))) ws known (Go (Leave steps.Falls)) ws (given known temps)
    load_moves temps t d u kept there gives =
        given_moves known temps ws (core.Load t x (distance_tree d)) t (content_of u) gives
        (λ marks c h next. loaded t d kept marks c h next ∙ ap (value_step (λ u. next (with_temp t u c))) (there (ordered known ws marks c h)))

    pub load_wrong : (t : ℕ) (d : Distance) → is_kept d.part d.width ≡ true
        → (AreInOrder known
        → value_of (p.byte + d.bytes) d.part d.width (slot_in (stored_in known) p.area p.object (p.cell + d.cells)) ≡ None)
        → IsMove (Execute (core.Do (core.Load t x (distance_tree d)))) ws known Wrong ws known
    load_wrong t d kept none =
        goes_wrong (core.Load t x (distance_tree d)) ws known
        (λ marks c h next. loaded t d kept marks c h next ∙ ap (value_step (λ u. next (with_temp t u c))) (none (ordered known ws marks c h)))

  -- ---- two pointers

  module _ (p q : ℕ) (u v : Value) (first : content_of u ≡ temp_of known.temps p) (second : content_of v ≡ temp_of known.temps q) where
    compared : (t : ℕ) (marks : List Mark) (c : Config) → Agrees known ws marks c → (next : Config → Step)
        → does (core.SamePlace t p q) next c ≡ null_step (λ n. next (with_temp t (memory.Word n) c)) (same_values (stored_in known) u v)
    compared t marks c h next =
        ap (λ x. same_place c.memory x (c.temps q) (λ n. next (with_temp t (memory.Word n) c))) (h.temps p ∙ sym first)
        ∙ ap (λ y. same_place c.memory (content_of u) y (λ n. next (with_temp t (memory.Word n) c))) (h.temps q ∙ sym second)
        ∙ same_is known ws marks c h u v (λ n. next (with_temp t (memory.Word n) c))

    pub same_moves : (temps : List Value) (t : ℕ) (b : Bool)
        → (AreInOrder known → same_values (stored_in known) u v ≡ Some b) → Gives t (memory.Word (truth b)) known.temps temps
        → IsMove (Execute (core.Do (core.SamePlace t p q))) ws known (Go (Leave steps.Falls)) ws (given known temps)
    same_moves temps t b is gives =
        given_moves known temps ws (core.SamePlace t p q) t (memory.Word (truth b)) gives
        (λ marks c h next. compared t marks c h next ∙ ap (null_step (λ n. next (with_temp t (memory.Word n) c))) (is (ordered known ws marks c h)))

    pub same_wrong : (t : ℕ) → (AreInOrder known → same_values (stored_in known) u v ≡ None)
        → IsMove (Execute (core.Do (core.SamePlace t p q))) ws known Wrong ws known
    same_wrong t is =
        goes_wrong (core.SamePlace t p q) ws known
        (λ marks c h next. compared t marks c h next ∙ ap (null_step (λ n. next (with_temp t (memory.Word n) c))) (is (ordered known ws marks c h)))
