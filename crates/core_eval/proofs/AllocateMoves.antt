-- A region gets a block, as Core does it.
use Rattle.std.specs.Prelude.{if◌then◌else◌, slice_set, option_map}
use Rattle.std.proofs.Common.{◌≡◌, ℕ, zero, suc, ◌*◌, Bool, true, false, Option, Some, None, List, [], ◌∷◌, ◌++◌, length, refl, ap, ◌∙◌, sym, subst, arith}
use Rattle.cyc_words.specs.Events as events
use Rattle.core_meaning.specs.Memory as memory
use Rattle.core_meaning.specs.Memory.{Region, Born, Content, Pointer, is_live, with_object, blanks, first_spot}
use Rattle.core_meaning.specs.Core as core
use Rattle.core_meaning.specs.Steps as steps
use Rattle.core_meaning.specs.Steps.{Config, with_temp, with_memory, Step, checked, birth_of, word_of}
use Rattle.core_meaning.specs.Operations.{saturated, says}
use Rattle.cyc_core.specs.declared.layout.Layout as code
use Rattle.cyc_core.specs.Trees.{layout_tree}
use Rattle.core_eval.specs.declared.value.Area.TheVariants as area
use Rattle.core_eval.specs.declared.value.Place.{Place}
use Rattle.core_eval.specs.declared.value.Value.{Value}
use Rattle.core_eval.specs.declared.value.Value.TheVariants as value
use Rattle.core_eval.specs.declared.value.Slot.{Slot}
use Rattle.core_eval.specs.Values.{region_of, spot_of, content_of, temp_of, part_in, cell_in, Shows}
use Rattle.core_eval.specs.Regions.{Kept, Regions, still_held, region_at, is_open, open_objects, with_blocks, grown_held, grown_region, area_of, block_place}
use Rattle.core_eval.specs.Elements.{block_cells}
use Rattle.core_eval.specs.LongBlocks.{LongBlock, with_long_block}
use Rattle.core_eval.specs.Blocks.{Stored, born_objects, next_place, grown_long, grown}
use Rattle.core_eval.specs.Whole.{is_still}
use Rattle.core_eval.specs.Pendings.{Execute, Leave, Wait, Go, Wrong, Mark}
use Rattle.core_eval.specs.Standing.{Known, Agrees, Gives}
use Rattle.core_eval.specs.Costs.{IsMove}
use Rattle.core_eval.proofs.Memories.{other_number, shows_object, shows_grown}
use Rattle.core_eval.proofs.Lists.{get_past}
use Rattle.core_eval.proofs.RegionsListed.{same_there}
use Rattle.core_eval.proofs.Elements.{block_parts}
use Rattle.core_eval.proofs.LongBlocks.{kept_grown}
use Rattle.core_eval.proofs.Born.{reached_there, kept_shows, heap_changed, region_changed, region_shows, born_agrees}
use Rattle.core_eval.proofs.Changes.{stored_in, with_stored}
use Rattle.core_eval.proofs.Laid.{live_is}
use Rattle.core_eval.proofs.Moves.{becomes_saying, goes_wrong}
use Rattle.core_eval.proofs.OperationMoves.{given, agrees_given}
use Rattle.core_eval.proofs.RegionMoves.{object_keeps, object_others, one_counted}

-- ---- what is stored

area_born : (d : ℕ) → region_of (area_of d) ≡ Born d
area_born zero = refl
area_born (suc n) = refl

-- a region that stays what it is
pub ungrown : (stored : Stored) (d : ℕ) (l : code.Layout) (count : ℕ) → born_objects stored d ≡ None → grown stored d l count ≡ stored
ungrown stored zero l count none = cc
ungrown stored (suc n) l count none =
    ap (λ (held : Option (List (List Slot))). record stored {
      regions = grown_region stored.regions n (block_cells false l count);
      long_blocks = grown_long stored.long_blocks n l count held;
    }) none
    ∙ ap (λ (rs : Regions). record stored { regions = rs }) (by (region_at stored.regions n) refl none)
  where
    within : (kept : Kept) (b : Bool) → (if b then Some kept.objects else None) ≡ None
        → (if b then with_blocks kept (kept.objects ++ block_cells false l count ∷ []) else kept) ≡ kept
    within kept true e = cc
    within kept false e = refl

    by : (held : Option Kept) → region_at stored.regions n ≡ held → open_objects held ≡ None
        → slice_set stored.regions n (grown_held (block_cells false l count) held) ≡ stored.regions
    by None at e = same_there stored.regions n None at
    by (Some kept) at e =
        ap (λ (k : Kept). slice_set stored.regions n (Some k)) (within kept (is_open kept.standing) e) ∙ same_there stored.regions n (Some kept) at

-- where there is no next place, there is no region
pub unplaced : (stored : Stored) (d : ℕ) → next_place stored d ≡ None → born_objects stored d ≡ None
unplaced stored d e = by (born_objects stored d) e
  where
    by : (held : Option (List (List Slot))) → option_map (λ objects. block_place d (length objects)) held ≡ None → held ≡ None
    by None e = refl
    by (Some objects) e = cc

module _ (known : Known) (ws : List Wait) (marks : List Mark) (c : Config) (h : Agrees known ws marks c) where
  born_is : (d : ℕ) → is_live (c.memory.standing (Born d)) ≡ is_still (born_objects (stored_in known) d)
  born_is zero = h.globals.live
  born_is (suc n) = live_is known ws marks c h (area.Region n)

  born_there : (d : ℕ) (objects : List (List Slot)) → born_objects (stored_in known) d ≡ Some objects
      → Shows c.memory (Born d) objects × (c.memory.objects (Born d) ≡ length objects)
  born_there zero objects has =
      let same : known.globals ≡ objects = cc in
      (subst (λ (os : List (List Slot)). Shows c.memory (Born 0) os) same h.globals, h.born.heap ∙ ap length same)
  born_there (suc n) objects has =
      let is = reached_there known.regions n objects has in
      let shows = region_shows c.memory c.memory known.globals known.regions known.long_blocks h.born n is.kept is.there in (
        subst (λ (os : List (List Slot)). Shows c.memory (Born (suc n)) os) (sym is.same) (kept_shows c.memory (Born (suc n)) is.kept shows is.opens),
        shows.counted ∙ ap length (sym is.same),
      )

  -- with a block more
  pub grown_agrees : (d : ℕ) (objects : List (List Slot)) → born_objects (stored_in known) d ≡ Some objects → (l : code.Layout) (count : ℕ)
      → Agrees (with_stored known (grown (stored_in known) d l count)) ws marks
      (with_memory (with_object c.memory (Born d) (blanks (layout_tree l) count)) c)
  grown_agrees zero objects has l count =
      let m = c.memory in
      let o = blanks (layout_tree l) count in
      let block = block_cells false l count in
      let parts = block_parts l count in
      let m' = with_object m (Born 0) o in
      born_agrees known ws marks c h m' (object_keeps m 0 o) (known.globals ++ block ∷ []) known.regions known.long_blocks
      (shows_grown h.globals h.born.heap o block parts)
      (heap_changed m m' known.globals known.regions known.long_blocks h.born (object_others m 0 o) refl (known.globals ++ block ∷ [])
      (one_counted m (Born 0) o known.globals block h.born.heap))
  grown_agrees (suc n) objects has l count =
      let m = c.memory in
      let o = blanks (layout_tree l) count in
      let block = block_cells false l count in
      let parts = block_parts l count in
      let m' = with_object m (Born (suc n)) o in
      let is = reached_there known.regions n objects has in
      let was = region_shows c.memory c.memory known.globals known.regions known.long_blocks h.born n is.kept is.there in
      let shows = shows_grown (kept_shows m (Born (suc n)) is.kept was is.opens) was.counted o block parts in
      let more : Kept = with_blocks is.kept (is.kept.objects ++ block ∷ []) in
      let counted : m.objects (Born (suc n)) ≡ length objects = was.counted ∙ ap length (sym is.same) in
      let none : (k : ℕ) → m.parts (spot_of (Born (suc n)) (length objects) k) 0 ≡ None =
      λ k. was.holds (length objects) k 0
      ∙ ap (λ o. part_in (cell_in o k) 0) (get_past is.kept.objects (length objects) (let e = ap length is.same in omega (arith, e))) in
      let longs : List LongBlock = with_long_block known.long_blocks n (length objects) l count in
      subst
      (λ (bs : List LongBlock). Agrees (record known { regions = grown_region known.regions n block; long_blocks = bs }) ws marks (with_memory m' c))
      (sym (ap (grown_long known.long_blocks n l count) has))
      (subst
      (λ (held : Option Kept). Agrees (record known { regions = slice_set known.regions n held; long_blocks = longs }) ws marks (with_memory m' c))
      (sym (ap (λ o. grown_held block (still_held o)) is.there
      ∙ ap (λ b. Some (if b then with_blocks is.kept (is.kept.objects ++ block ∷ []) else is.kept)) is.opens))
      (born_agrees known ws marks c h m' (object_keeps m (suc n) o) known.globals (slice_set known.regions n (Some more)) longs
      (shows_object h.globals (Born (suc n)) (other_number 0 (suc n) (omega arith)) o)
      (region_changed m m' known.globals known.regions known.long_blocks h.born n (object_others m (suc n) o) (Some more) (Some is.kept) is.there
      (record { standing = was.standing; holds = shows.holds; counted = one_counted m (Born (suc n)) o is.kept.objects block was.counted })
      longs (kept_grown m known.long_blocks h.born.kept n (length objects) counted none l count))))

-- ---- moves

module _ (known : Known) (ws : List Wait) (x : ℕ) (u : Value) (read : content_of u ≡ temp_of known.temps x) (d : ℕ) (is : u ≡ value.Birth d)
    (y : ℕ) (v : Value) (counts : content_of v ≡ temp_of known.temps y) (t : ℕ) (l : code.Layout) where
  abbrev tree : memory.Layout
  tree = layout_tree l

  abbrev with_block : Config → ℕ → Config
  with_block c count = with_temp t (Pointer (first_spot c.memory (Born d)) 0) (with_memory (with_object c.memory (Born d) (blanks tree count)) c)

  abbrev counted_step : (c : Config) → (Config → Step) → ℕ → ℕ → Step
  counted_step c next d count = checked (is_live (c.memory.standing (Born d))) (says (events.RegionAlloc d (saturated (count * tree.bytes)))
      (next (with_temp t (Pointer (first_spot c.memory (Born d)) 0) (with_memory (with_object c.memory (Born d) (blanks tree count)) c))))

  -- where its count is read
  at_birth : (marks : List Mark) (c : Config) → Agrees known ws marks c → (next : Config → Step)
      → birth_of (c.temps x) (λ d. word_of (c.temps y) (counted_step c next d)) ≡ word_of (content_of v) (counted_step c next d)
  at_birth marks c h next =
      ap (λ (z : Content). birth_of z (λ d. word_of (c.temps y) (counted_step c next d))) (h.temps x ∙ sym read ∙ ap content_of is)
      ∙ ap (λ (z : Content). word_of z (counted_step c next d)) (h.temps y ∙ sym counts)

  module _ (count : ℕ) (many : v ≡ value.Word count) where
    at_count : (marks : List Mark) (c : Config) → Agrees known ws marks c → (next : Config → Step)
        → birth_of (c.temps x) (λ d. word_of (c.temps y) (counted_step c next d))
        ≡ checked (is_still (born_objects (stored_in known) d)) (says (events.RegionAlloc d (saturated (count * tree.bytes))) (next (with_block c count)))
    at_count marks c h next =
        at_birth marks c h next ∙ ap (λ (z : Value). word_of (content_of z) (counted_step c next d)) many
        ∙ ap (λ b. checked b (says (events.RegionAlloc d (saturated (count * tree.bytes))) (next (with_block c count)))) (born_is known ws marks c h d)

    -- what is known then
    abbrev pub with_more : Known
    with_more = with_stored known (grown (stored_in known) d l count)

    block_placed : (temps : List Value) (p : Place) (held : Option (List (List Slot))) → born_objects (stored_in known) d ≡ held
        → option_map (λ objects. block_place d (length objects)) held ≡ Some p → Gives t (content_of (value.Pointer p)) known.temps temps
        → IsMove (Execute (core.Do (core.RegionAlloc t x y tree))) ws known (Go (Leave steps.Falls)) ws (given with_more temps)
    block_placed temps p None has e gives = cc
    block_placed temps p (Some objects) has e gives =
        let same : block_place d (length objects) ≡ p = cc in
        becomes_saying (core.RegionAlloc t x y tree) ws known (given with_more temps) (λ c. events.RegionAlloc d (saturated (count * tree.bytes)))
        (λ c. with_block c count) (λ c. tt)
        (λ marks c h next. at_count marks c h next
        ∙ ap (λ held. checked (is_still held) (says (events.RegionAlloc d (saturated (count * tree.bytes))) (next (with_block c count)))) has)
        (λ marks c h.
        let (shows, counted) = born_there known ws marks c h d objects has in
        let leads : content_of (value.Pointer p) ≡ Pointer (first_spot c.memory (Born d)) 0 =
        ap (λ (q : Place). content_of (value.Pointer q)) (sym same)
        ∙ ap (λ (r : Region). Pointer (spot_of r (length objects) 0) 0) (area_born d)
        ∙ ap (λ (n : ℕ). Pointer (spot_of (Born d) n 0) 0) (sym counted) in
        agrees_given with_more temps ws t (Pointer (first_spot c.memory (Born d)) 0)
        (subst (λ (w : Content). Gives t w known.temps temps) leads gives) marks
        (with_memory (with_object c.memory (Born d) (blanks tree count)) c)
        (grown_agrees known ws marks c h d objects has l count))

    pub allocate_moves : (temps : List Value) (p : Place) → next_place (stored_in known) d ≡ Some p → Gives t (content_of (value.Pointer p)) known.temps temps
        → IsMove (Execute (core.Do (core.RegionAlloc t x y tree))) ws known (Go (Leave steps.Falls)) ws (given with_more temps)
    allocate_moves temps p placed gives = block_placed temps p (born_objects (stored_in known) d) refl placed gives

    pub allocate_wrong : next_place (stored_in known) d ≡ None → IsMove (Execute (core.Do (core.RegionAlloc t x y tree))) ws known Wrong ws known
    allocate_wrong none =
        goes_wrong (core.RegionAlloc t x y tree) ws known (λ marks c h next. at_count marks c h next
        ∙ ap (λ held. checked (is_still held) (says (events.RegionAlloc d (saturated (count * tree.bytes))) (next (with_block c count))))
        (unplaced (stored_in known) d none))
