-- What the evaluator stores to locals and globals, as Core does it.
use Rattle.std.specs.Prelude.{if◌then◌else◌, ◌&&◌, nat_eq, slice_get, slice_set, option_map}
use Rattle.std.proofs.Common.{◌≡◌, ℕ, ◌+◌, ◌*◌, Bool, true, false, Option, Some, None, List, length, refl, ap, ◌∙◌, sym, arith}
use Rattle.std.proofs.lemmas.Bool.Decides.{nat_tests}
use Rattle.std.proofs.lemmas.List.{length-set}
use Rattle.core_meaning.proofs.Spots.{spot_same}
use Rattle.core_meaning.specs.Memory.{Region, Frame, Spot, Content, Part, Memory, same_spot, with_part}
use Rattle.core_meaning.specs.Core as core
use Rattle.core_meaning.specs.Steps as steps
use Rattle.core_meaning.specs.Steps.{Config, with_memory, Step, stuck, needed, pointer_of}
use Rattle.core_meaning.specs.Operations.{reached, at_once, local_spot, fitting, lies_at}
use Rattle.cyc_core.specs.declared.operation.Width.{Width}
use Rattle.cyc_core.specs.declared.operation.Width.TheVariants as width
use Rattle.cyc_core.specs.declared.operation.Distance.{Distance}
use Rattle.cyc_core.specs.Trees.{bytes_of, distance_tree}
use Rattle.core_eval.specs.declared.value.Area.{Area}
use Rattle.core_eval.specs.declared.value.Area.TheVariants as area
use Rattle.core_eval.specs.declared.value.Place.{Place}
use Rattle.core_eval.specs.declared.value.Value.{Value}
use Rattle.core_eval.specs.declared.value.Value.TheVariants as value
use Rattle.core_eval.specs.declared.value.Slot.{Slot}
use Rattle.core_eval.specs.Values.{
  region_of,
  spot_of,
  content_of,
  temp_of,
  width_of,
  values_in,
  part_in,
  cell_in,
  slot_at,
  Shows,
  is_fit,
  is_kept,
  value_of,
  fitted,
  with_held,
  put_in,
}
use Rattle.core_eval.specs.Regions.{Kept, region_at, is_open, with_blocks, put_held}
use Rattle.core_eval.specs.Blocks.{
  Activation,
  Stored,
  own_position,
  position_of,
  number_through,
  slot_in,
  local_slot,
  put_block,
  put_among,
  put_through,
  put_local,
  put_to,
}
use Rattle.core_eval.specs.Pendings.{Execute, Leave, Wait, Go, Wrong, Mark, rest_of}
use Rattle.core_eval.specs.Standing.{Known, Agrees}
use Rattle.core_eval.specs.Costs.{IsMove}
use Rattle.core_eval.proofs.Parts.{valued_part, part_there}
use Rattle.core_eval.proofs.Memories.{found_step, found, reached_at, shown_part, IsPut, put_is, found_missing, parts_put}
use Rattle.core_eval.proofs.Nested.{position_is}
use Rattle.core_eval.proofs.Born.{held_there}
use Rattle.core_eval.proofs.Changes.{stored_in, with_stored, Replaces, replaced_shows, replaced_agrees, part_elsewhere}
use Rattle.core_eval.proofs.MemoryMoves.{AreInOrder, ordered, own_number, own_is, placed}
use Rattle.core_eval.proofs.Moves.{all_stand, goes_here, goes_wrong}

-- ---- a store to one cell

fits : (w : Width) (v : Value) → fitting (bytes_of w) (content_of v) ≡ content_of (fitted w v)
fits width.Byte value.Blank = refl
fits width.Byte (value.Word n) = refl
fits width.Byte value.Null = refl
fits width.Byte (value.Pointer p) = refl
fits width.Byte (value.Birth d) = refl
fits width.Word v = refl

found_put : (byte j : ℕ) (w : Width) (s : Slot) (old v : Value) (u : Content) (next : Part → Step) → is_fit byte j w s ≡ true
    → slice_get (values_in s.held) j ≡ Some old → u ≡ content_of v
    → found byte j w (λ p. next (record p { content = fitting (bytes_of w) u })) (Some s) ≡ next (valued_part s j (fitted w v))
found_put byte j w s old v u next fit there is =
    let put : Content → Part → Step = λ z p. next (record p { content = fitting (bytes_of w) z }) in
    ap (λ b. if b then found_step s j (put u) (slice_get (values_in s.held) j) else stuck) fit
    ∙ ap (found_step s j (put u)) there
    ∙ ap (λ z. put z (valued_part s j old)) is
    ∙ ap (λ z. next (record (valued_part s j old) { content = z })) (fits w v)

-- Core's memory after a store
abbrev stored : Memory → Region → (i k j : ℕ) → Slot → Value → Memory
stored m r i k j s v = with_part m (spot_of r i k) j (valued_part s j v)

-- no part lies elsewhere then
stored_lies : {m : Memory} {r : Region} {objects : List (List Slot)} (shows : Shows m r objects) (i k j : ℕ) (v : Value) (cells : List Slot) (old : Slot)
    → slice_get objects i ≡ Some cells → slice_get cells k ≡ Some old → (t : Spot) (byte : ℕ)
    → lies_at ((stored m r i k j old v).parts t 0) byte ≡ lies_at (m.parts t 0) byte
stored_lies {m} {r} {objects} shows i k j v cells old object there t byte = by (same_spot t (spot_of r i k)) (nat_eq 0 j) refl refl
  where
    by : (s first : Bool) → same_spot t (spot_of r i k) ≡ s → nat_eq 0 j ≡ first
        → lies_at (if s && first then Some (valued_part old j v) else m.parts t 0) byte ≡ lies_at (m.parts t 0) byte
    by false first is none = refl
    by true false is none = refl
    by true true is zero_th =
        let at : t ≡ spot_of r i k = spot_same t (spot_of r i k) is in
        let begins : old.offset + j * bytes_of (width_of old.held) ≡ old.offset =
        (let none : j ≡ 0 = grind (arith, nat_tests, zero_th) in
        ap (λ (x : ℕ). old.offset + x * bytes_of (width_of old.held)) none ∙ omega arith) in
        ap (λ (x : ℕ). nat_eq x byte) begins
        ∙ sym (ap (λ (u : Spot). lies_at (m.parts u 0) byte) at
        ∙ ap (λ p. lies_at p byte) (shows.holds i k 0 ∙ ap (λ o. part_in (cell_in o k) 0) object ∙ ap (λ o. part_in o 0) there))

-- what a store does where the region shows the cell
store_is : {m : Memory} {r : Region} {objects objects' : List (List Slot)} (shows : Shows m r objects) (i k b cells bytes j : ℕ) (w : Width) (v : Value)
    → is_kept j w ≡ true → (put : IsPut objects i (k + cells) (b + bytes) j w v objects')
    → (u : Content) → u ≡ content_of v → (next : Memory → Step)
    → reached m (record { cells = cells; bytes = bytes; part = j; width = bytes_of w }) (spot_of r i k) b
    (λ there p. next (with_part m there j (record p { content = fitting (bytes_of w) u })))
    ≡ next (stored m r i (k + cells) j put.old (fitted w v))
store_is {m} {r} {objects} {objects'} shows i k b cells bytes j w v kept put u is next =
    let (was, old) = part_there (fitted w v) put.old.held j put.holds put.set in
    reached_at m r i k b cells bytes j (slot_at objects i (k + cells)) w (λ there p. next (with_part m there j (record p { content = fitting (bytes_of w) u })))
    kept (shown_part shows i (k + cells) j)
    ∙ ap (found (b + bytes) j w (λ p. next (with_part m (spot_of r i (k + cells)) j (record p { content = fitting (bytes_of w) u }))))
    (ap (λ o. cell_in o (k + cells)) put.object ∙ put.there)
    ∙ found_put (b + bytes) j w put.old was v u (λ p. next (with_part m (spot_of r i (k + cells)) j p)) put.fits old is

-- ---- a store to a local

-- a store to a cell of a local of the block that stands there
record IsBlockPut (blocks : List Activation) (p i k byte j : ℕ) (w : Width) (v : Value) (blocks' : List Activation) : Type 0 where
  pub block : Activation
  pub objects' : List (List Slot)
  pub there : slice_get blocks p ≡ Some block
  pub put : IsPut block.objects i k byte j w v objects'
  pub after : blocks' ≡ slice_set blocks p (record { number = block.number; objects = objects' })

module _ (blocks : List Activation) (i k byte j : ℕ) (w : Width) (v : Value) where
  put_there : (p : ℕ) (blocks' : List Activation) (b : Activation) (o : Option (List (List Slot))) → slice_get blocks p ≡ Some b
      → put_in b.objects i k byte j w v ≡ o
      → option_map (put_block blocks p b) o ≡ Some blocks' → IsBlockPut blocks p i k byte j w v blocks'
  put_there p blocks' b None at put e = cc
  put_there p blocks' b (Some objects') at put e =
      record { block = b; objects' = objects'; there = at; put = put_is b.objects i k byte j w v objects' put; after = cc }

  put_case : (p : ℕ) (blocks' : List Activation) (o : Option Activation) → slice_get blocks p ≡ o → put_among blocks p i k byte j w v o ≡ Some blocks'
      → IsBlockPut blocks p i k byte j w v blocks'
  put_case p blocks' None at e = cc
  put_case p blocks' (Some b) at e = put_there p blocks' b (put_in b.objects i k byte j w v) at refl e

  block_put_is : (p : ℕ) (blocks' : List Activation) → put_through blocks (Some p) i k byte j w v ≡ Some blocks' → IsBlockPut blocks p i k byte j w v blocks'
  block_put_is p blocks' e = put_case p blocks' (slice_get blocks p) refl e

-- ---- a store to an object of an area

pub record IsStored (known : Known) (a : Area) (i k byte j : ℕ) (w : Width) (v : Value) (after : Stored) : Type 0 where
  pub objects : List (List Slot)
  pub objects' : List (List Slot)
  pub put : IsPut objects i k byte j w v objects'
  pub replaces : Replaces known a objects objects' after

module _ (known : Known) (i k byte j : ℕ) (w : Width) (v : Value) where
  global_stored : (after : Stored) (o : Option (List (List Slot))) → put_in known.globals i k byte j w v ≡ o
      → option_map (λ globals. record (stored_in known) { globals = globals }) o ≡ Some after → IsStored known area.Globals i k byte j w v after
  global_stored after None put e = cc
  global_stored after (Some globals) put e = record {
    objects = known.globals;
    objects' = globals;
    put = put_is known.globals i k byte j w v globals put;
    replaces = (refl, cc);
  }

  -- the one open region, and what it has after the store
  open_stored : (n : ℕ) (after : Stored) (kept : Kept) → region_at known.regions n ≡ Some kept → is_open kept.standing ≡ true
      → (o : Option (List (List Slot))) → put_in kept.objects i k byte j w v ≡ o
      → option_map (λ regions. record (stored_in known) { regions = regions })
      (option_map (slice_set known.regions n) (option_map (λ objects. Some (with_blocks kept objects)) o)) ≡ Some after
      → IsStored known (area.Region n) i k byte j w v after
  open_stored n after kept at opens None put e = cc
  open_stored n after kept at opens (Some objects') put e = record {
    objects = kept.objects;
    objects' = objects';
    put = put_is kept.objects i k byte j w v objects' put;
    replaces = (kept, held_there known.regions n kept at, opens, refl, cc);
  }

  region_stored : (n : ℕ) (after : Stored) (held : Option Kept) → region_at known.regions n ≡ held
      → option_map (λ regions. record (stored_in known) { regions = regions }) (option_map (slice_set known.regions n) (put_held i k byte j w v held))
      ≡ Some after
      → IsStored known (area.Region n) i k byte j w v after
  region_stored n after None at e = cc
  region_stored n after (Some kept) at e = by (is_open kept.standing) refl e
    where
      by : (b : Bool) → is_open kept.standing ≡ b
          → option_map (λ regions. record (stored_in known) { regions = regions }) (option_map (slice_set known.regions n)
          (if b then option_map (λ objects. Some (with_blocks kept objects)) (put_in kept.objects i k byte j w v) else None)) ≡ Some after
          → IsStored known (area.Region n) i k byte j w v after
      by true opens e = open_stored n after kept at opens (put_in kept.objects i k byte j w v) refl e
      by false closed e = cc

  block_stored : (n : ℕ) (after : Stored) (p : Option ℕ) (o : Option (List Activation)) → position_of known.blocks n ≡ p
      → put_through known.blocks p i k byte j w v ≡ o
      → option_map (λ blocks. record (stored_in known) { blocks = blocks }) o ≡ Some after → IsStored known (area.Block n) i k byte j w v after
  block_stored n after None o at put e = cc
  block_stored n after (Some p) None at put e = cc
  block_stored n after (Some p) (Some blocks) at put e =
      let is = block_put_is known.blocks i k byte j w v p blocks put in record {
        objects = is.block.objects;
        objects' = is.objects';
        put = is.put;
        replaces = (
          p,
          is.block,
          at,
          is.there,
          refl,
          (let same : record (stored_in known) { blocks = blocks } ≡ after = cc in
              sym same ∙ ap (λ bs. record (stored_in known) { blocks = bs }) is.after),
        );
      }

  values_stored : (n : ℕ) (after : Stored) (p : Option ℕ) (o : Option (List Activation)) → position_of known.owns n ≡ p
      → put_through known.owns p i k byte j w v ≡ o
      → option_map (λ owns. record (stored_in known) { owns = owns }) o ≡ Some after → IsStored known (area.Own n) i k byte j w v after
  values_stored n after None o at put e = cc
  values_stored n after (Some p) None at put e = cc
  values_stored n after (Some p) (Some owns) at put e =
      let is = block_put_is known.owns i k byte j w v p owns put in record {
        objects = is.block.objects;
        objects' = is.objects';
        put = is.put;
        replaces = (
          p,
          is.block,
          at,
          is.there,
          refl,
          (let same : record (stored_in known) { owns = owns } ≡ after = cc in
              sym same ∙ ap (λ bs. record (stored_in known) { owns = bs }) is.after),
        );
      }

  pub put_stored : (a : Area) (after : Stored) → put_to (stored_in known) a i k byte j w v ≡ Some after → IsStored known a i k byte j w v after
  put_stored area.Globals after e = global_stored after (put_in known.globals i k byte j w v) refl e
  put_stored (area.Region n) after e =
      region_stored n after (region_at known.regions n) refl e
  put_stored (area.Block n) after e =
      block_stored n after (position_of known.blocks n) (put_through known.blocks (position_of known.blocks n) i k byte j w v) refl refl e
  put_stored (area.Own n) after e =
      values_stored n after (position_of known.owns n) (put_through known.owns (position_of known.owns n) i k byte j w v) refl refl e

-- ---- moves

module _ (known : Known) (ws : List Wait) (x : ℕ) (v : Value) (read : content_of v ≡ temp_of known.temps x) where
  -- the memory after a store to an object of an area
  abbrev after_put : Config → Region → (i k j : ℕ) → Slot → Value → Config
  after_put c r i k j s v = with_memory (stored c.memory r i k j s v) c

  stored_agrees : (a : Area) (i k byte j : ℕ) (w : Width) (after : Stored) (is : IsStored known a i k byte j w v after) (marks : List Mark) (c : Config)
      → Agrees known ws marks c
      → Agrees (with_stored known after) ws marks (after_put c (region_of a) i k j is.put.old (fitted w v))
  stored_agrees a i k byte j w after is marks c h =
      replaced_agrees known ws marks c h (stored c.memory (region_of a) i k j is.put.old (fitted w v)).parts
      (stored_lies (replaced_shows known ws marks c h a is.objects is.objects' after is.replaces) i k j (fitted w v) is.put.cells is.put.old
      is.put.object is.put.there)
      a is.objects is.objects' after is.replaces
      (ap length is.put.after ∙ length-set is.objects i (slice_set is.put.cells k (with_held is.put.old is.put.holds)))
      (λ t x other. part_elsewhere c.memory (region_of a) i k j (valued_part is.put.old j (fitted w v)) t x other)
      (λ y z x.
      parts_put (replaced_shows known ws marks c h a is.objects is.objects' after is.replaces) i k j is.put.cells is.put.old (fitted w v) is.put.holds
      is.put.object is.put.there is.put.set y z x
      ∙ ap (λ os. part_in (slot_at os y z) x) (sym is.put.after))

  stored_step : (a : Area) (i k b cells bytes j : ℕ) (w : Width) (after : Stored) (is : IsStored known a i (k + cells) (b + bytes) j w v after)
      (marks : List Mark) (c : Config)
      → Agrees known ws marks c → is_kept j w ≡ true → (next : Memory → Step)
      → reached c.memory (record { cells = cells; bytes = bytes; part = j; width = bytes_of w }) (spot_of (region_of a) i k) b
      (λ at q. next (with_part c.memory at j (record q { content = fitting (bytes_of w) (c.temps x) })))
      ≡ next (stored c.memory (region_of a) i (k + cells) j is.put.old (fitted w v))
  stored_step a i k b cells bytes j w after is marks c h kept next =
      store_is (replaced_shows known ws marks c h a is.objects is.objects' after is.replaces) i k b cells bytes j w v kept is.put (c.temps x)
      (h.temps x ∙ sym read) next

  -- a store to a local, as a store to an object of its block
  own_stored : (p i : ℕ) (w : Width) (blocks : List Activation) (b : Activation) → slice_get known.blocks p ≡ Some b
      → position_of known.blocks b.number ≡ Some p
      → put_through known.blocks (Some p) i 0 0 0 w v ≡ Some blocks
      → IsStored known (area.Block b.number) i 0 0 0 w v (record (stored_in known) { blocks = blocks })
  own_stored p i w blocks b there at e =
      block_stored known i 0 0 0 w v b.number (record (stored_in known) { blocks = blocks }) (Some p) (Some blocks) at e refl

  own_put : (out i : ℕ) (w : Width) (blocks : List Activation) (o : Option ℕ) → own_position known.base known.blocks out ≡ o
      → put_through known.blocks o i 0 0 0 w v ≡ Some blocks
      → IsMove (Execute (core.Do (core.Put out i (bytes_of w) x))) ws known (Go (Leave steps.Falls)) ws (record known { blocks = blocks })
  own_put out i w blocks None own e = cc
  own_put out i w blocks (Some p) own e =
      let is = block_put_is known.blocks i 0 0 0 w v p blocks e in
      record {
        still = all_stand _ ws known _ ws (record known { blocks = blocks }) (λ main marks c h.
            let at = position_is known.entered known.blocks p is.block (ordered known ws marks c h).0 is.there in
            let s = own_stored p i w blocks is.block is.there at e in
            goes_here main marks (after_put c (Frame is.block.number) i 0 0 s.put.old (fitted w v)) _ _ ws (record known { blocks = blocks })
            (stored_agrees (area.Block is.block.number) i 0 0 0 w (record (stored_in known) { blocks = blocks }) s marks c h)
            (ap (λ n. needed n (λ k. reached c.memory (at_once (bytes_of w)) (local_spot k i) 0 (λ at q.
            rest_of main ws marks steps.Falls (with_memory (with_part c.memory at 0 (record q { content = fitting (bytes_of w) (c.temps x) })) c))))
            (own_number known ws marks c h out ∙ ap (number_through known.blocks) own ∙ ap (option_map (λ b. b.number)) is.there)
            ∙ stored_step (area.Block is.block.number) i 0 0 0 0 0 w (record (stored_in known) { blocks = blocks }) s marks c h refl
            (λ m. rest_of main ws marks steps.Falls (with_memory m c))));
        fewer = omega arith;
      }

  pub put_moves : (out i : ℕ) (w : Width) (blocks : List Activation) → put_local known.base known.blocks out i w v ≡ Some blocks
      → IsMove (Execute (core.Do (core.Put out i (bytes_of w) x))) ws known (Go (Leave steps.Falls)) ws (record known { blocks = blocks })
  put_moves out i w blocks e = own_put out i w blocks (own_position known.base known.blocks out) refl e

  stuck_found : (n : Option ℕ) (step : ℕ → Step) → ((k : ℕ) → step k ≡ stuck) → needed n step ≡ stuck
  stuck_found None step h = refl
  stuck_found (Some k) step h = h k

  pub put_wrong : (out i : ℕ) (w : Width) → value_of 0 0 w (local_slot known.base known.blocks out i) ≡ None
      → IsMove (Execute (core.Do (core.Put out i (bytes_of w) x))) ws known Wrong ws known
  put_wrong out i w e =
      goes_wrong (core.Put out i (bytes_of w) x) ws known (λ marks c h next.
      own_is known ws marks c h out i w (λ at q. next (with_memory (with_part c.memory at 0 (record q { content = fitting (bytes_of w) (c.temps x) })) c))
      ∙ stuck_found (number_through known.blocks (own_position known.base known.blocks out))
      (λ k. found 0 0 w (λ q. next (with_memory (with_part c.memory (local_spot k i) 0 (record q { content = fitting (bytes_of w) (c.temps x) })) c))
      (local_slot known.base known.blocks out i))
      (λ k. found_missing 0 0 w (λ q. next (with_memory (with_part c.memory (local_spot k i) 0 (record q { content = fitting (bytes_of w) (c.temps x) })) c))
      (local_slot known.base known.blocks out i) e))

  -- ---- through a pointer

  module _ (y : ℕ) (u : Value) (read_place : content_of u ≡ temp_of known.temps y) (p : Place) (is_place : u ≡ value.Pointer p) (d : Distance)
      (kept : is_kept d.part d.width ≡ true) where
    -- what a store does to each state
    abbrev stores : (c : Config) → (Config → Step) → Content → Step
    stores c next z = pointer_of z (λ s b. reached c.memory (distance_tree d) s b (λ at q.
        next (with_memory (with_part c.memory at d.part (record q { content = fitting (bytes_of d.width) (c.temps x) })) c)))

    pub store_moves : (after : Stored)
        → (AreInOrder known → put_to (stored_in known) p.area p.object (p.cell + d.cells) (p.byte + d.bytes) d.part d.width v ≡ Some after)
        → IsMove (Execute (core.Do (core.Store y (distance_tree d) x))) ws known (Go (Leave steps.Falls)) ws (with_stored known after)
    store_moves after e = record {
      still = all_stand _ ws known _ ws (with_stored known after) (λ main marks c h.
          let is = put_stored known p.object (p.cell + d.cells) (p.byte + d.bytes) d.part d.width v p.area after (e (ordered known ws marks c h)) in
          goes_here main marks (after_put c (region_of p.area) p.object (p.cell + d.cells) d.part is.put.old (fitted d.width v)) _ _ ws
          (with_stored known after)
          (stored_agrees p.area p.object (p.cell + d.cells) (p.byte + d.bytes) d.part d.width after is marks c h)
          (ap (stores c (rest_of main ws marks steps.Falls)) (h.temps y ∙ sym read_place ∙ ap content_of is_place)
          ∙ stored_step p.area p.object p.cell p.byte d.cells d.bytes d.part d.width after is marks c h kept
          (λ m. rest_of main ws marks steps.Falls (with_memory m c))));
      fewer = omega arith;
    }

    pub store_wrong : (AreInOrder known
        → value_of (p.byte + d.bytes) d.part d.width (slot_in (stored_in known) p.area p.object (p.cell + d.cells)) ≡ None)
        → IsMove (Execute (core.Do (core.Store y (distance_tree d) x))) ws known Wrong ws known
    store_wrong e =
        goes_wrong (core.Store y (distance_tree d) x) ws known (λ marks c h next.
        ap (stores c next) (h.temps y ∙ sym read_place ∙ ap content_of is_place)
        ∙ placed known ws marks c h p d
        (λ at q. next (with_memory (with_part c.memory at d.part (record q { content = fitting (bytes_of d.width) (c.temps x) })) c)) kept
        ∙ found_missing (p.byte + d.bytes) d.part d.width
        (λ q. next (with_memory (with_part c.memory (spot_of (region_of p.area) p.object (p.cell + d.cells)) d.part
        (record q { content = fitting (bytes_of d.width) (c.temps x) })) c))
        (slot_in (stored_in known) p.area p.object (p.cell + d.cells)) (e (ordered known ws marks c h)))
