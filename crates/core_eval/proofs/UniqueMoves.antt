-- Unique blocks are made and freed, as Core does it.
use Rattle.std.specs.Prelude.{if◌then◌else◌, nat_eq, slice_set}
use Rattle.std.proofs.Common.{◌≡◌, ℕ, suc, Bool, true, false, Option, Some, None, List, [], ◌∷◌, ◌++◌, length, refl, ap, ◌∙◌, sym, subst}
use Rattle.cyc_words.specs.Events as events
use Rattle.core_meaning.specs.Memory as memory
use Rattle.core_meaning.specs.Memory.{Born, Single, Dead, Content, Pointer, is_single, with_standing, with_object, blanks}
use Rattle.core_meaning.specs.Core as core
use Rattle.core_meaning.specs.Steps as steps
use Rattle.core_meaning.specs.Steps.{Config, with_temp, with_memory, checked, pointer_of}
use Rattle.core_meaning.specs.Operations.{alone_freed, born, says}
use Rattle.cyc_core.specs.declared.layout.Layout as code
use Rattle.cyc_core.specs.Trees.{layout_tree}
use Rattle.core_eval.specs.declared.region.Standing.TheVariants as standing
use Rattle.core_eval.specs.declared.value.Area.{Area}
use Rattle.core_eval.specs.declared.value.Area.TheVariants as area
use Rattle.core_eval.specs.declared.value.Place.{Place}
use Rattle.core_eval.specs.declared.value.Value.{Value}
use Rattle.core_eval.specs.declared.value.Value.TheVariants as value
use Rattle.core_eval.specs.declared.value.Slot.{Slot}
use Rattle.core_eval.specs.Values.{region_of, spot_of, content_of, temp_of}
use Rattle.core_eval.specs.Elements.{block_cells}
use Rattle.core_eval.specs.Regions.{Kept, Regions, region_at, open_objects, grown_held, grown_region, single_freed}
use Rattle.core_eval.specs.LongBlocks.{with_long_block}
use Rattle.core_eval.specs.Blocks.{grown_long, grown}
use Rattle.core_eval.specs.Pendings.{Execute, Leave, Wait, Go, Wrong, Mark}
use Rattle.core_eval.specs.Standing.{Known, Agrees, Gives}
use Rattle.core_eval.specs.Costs.{IsMove}
use Rattle.core_eval.proofs.Memories.{same_number}
use Rattle.core_eval.proofs.Born.{region_grown}
use Rattle.core_eval.proofs.Changes.{stored_in, with_stored}
use Rattle.core_eval.proofs.Moves.{Becomes, becomes_saying}
use Rattle.core_eval.proofs.OperationMoves.{given, agrees_given}
use Rattle.core_eval.proofs.RegionMoves.{with_birth, birth_agrees}
use Rattle.core_eval.proofs.TurnMoves.{turn_answer, wrong_answer}
use Rattle.core_eval.proofs.AllocateMoves.{grown_agrees}

-- ---- one is made

set_last : {A : Type 0} (xs : List A) (x y : A) → slice_set (xs ++ x ∷ []) (length xs) y ≡ xs ++ y ∷ []
set_last [] x y = refl
set_last (z ∷ xs) x y = ap (λ l. z ∷ l) (set_last xs x y)

module _ (known : Known) (ws : List Wait) (t : ℕ) (l : code.Layout) where
  abbrev tree : memory.Layout
  tree = layout_tree l

  abbrev lone : List (List Slot) → Option Kept
  lone objects = Some (record { standing = standing.Single; objects = objects })

  -- what is known then
  abbrev pub with_unique : Known
  with_unique = record known {
    regions = known.regions ++ lone (block_cells false l 1 ∷ []) ∷ [];
    long_blocks = with_long_block known.long_blocks (length known.regions) 0 l 1;
  }

  empty_there : region_at (known.regions ++ lone [] ∷ []) (length known.regions) ≡ lone []
  empty_there =
      region_grown known.regions (lone []) (length known.regions)
      ∙ ap (λ b. if b then lone [] else region_at known.regions (length known.regions)) (same_number (length known.regions))

  grown_last : grown (stored_in (with_birth known ws standing.Single)) (suc (length known.regions)) l 1 ≡ stored_in with_unique
  grown_last =
      let n = length known.regions in
      ap (λ (held : Option Kept). record (stored_in known) {
        regions = grown_region (known.regions ++ lone [] ∷ []) n (block_cells false l 1);
        long_blocks = grown_long known.long_blocks n l 1 (open_objects held);
      }) empty_there
      ∙ ap (λ (rs : Regions). record (stored_in known) { regions = rs; long_blocks = with_long_block known.long_blocks n 0 l 1 })
      (ap (λ held. slice_set (known.regions ++ lone [] ∷ []) (length known.regions) (grown_held (block_cells false l 1) held)) empty_there
      ∙ set_last known.regions (lone []) (lone (block_cells false l 1 ∷ [])))

  abbrev then_born : Config → ℕ → memory.Memory
  then_born c d = with_object (born Single c.memory) (Born d) (blanks tree 1)

  unique_agrees : (marks : List Mark) (c : Config) → Agrees known ws marks c
      → Agrees with_unique ws marks (with_memory (then_born c c.memory.births) c)
  unique_agrees marks c h =
      let empty = birth_agrees known ws standing.Single marks c h in
      let whole = grown_agrees (with_birth known ws standing.Single) ws marks (with_memory (born Single c.memory) c) empty (suc (length known.regions)) []
      (ap open_objects empty_there) l 1 in
      subst (λ (d : ℕ). Agrees with_unique ws marks (with_memory (then_born c d) c)) (sym h.born.births)
      (subst (λ s. Agrees (with_stored known s) ws marks (with_memory (then_born c (suc (length known.regions))) c)) grown_last whole)

  -- where it begins
  abbrev pub unique_place : ℕ → Place
  unique_place n = record { area = area.Region n; object = 0; byte = 0; cell = 0 }

  pub unique_moves : (temps : List Value) (n : ℕ) → n ≡ length known.regions → Gives t (content_of (value.Pointer (unique_place n))) known.temps temps
      → IsMove (Execute (core.Do (core.UniqueAlloc t tree))) ws known (Go (Leave steps.Falls)) ws (given with_unique temps)
  unique_moves temps n is gives =
      becomes_saying (core.UniqueAlloc t tree) ws known (given with_unique temps) (λ c. events.UniqueAlloc c.memory.births tree.bytes)
      (λ c. with_temp t (Pointer (spot_of (Born c.memory.births) 0 0) 0) (with_memory (then_born c c.memory.births) c)) (λ c. tt)
      (λ marks c h next. refl)
      (λ marks c h. agrees_given with_unique temps ws t (Pointer (spot_of (Born c.memory.births) 0 0) 0)
      (subst (λ (d : ℕ). Gives t (Pointer (spot_of (Born d) 0 0) 0) known.temps temps) (ap suc is ∙ sym h.born.births) gives) marks
      (with_memory (then_born c c.memory.births) c) (unique_agrees marks c h))

-- ---- one is freed

module _ (known : Known) (ws : List Wait) (x : ℕ) (v : Value) (read : content_of v ≡ temp_of known.temps x) (p : Place) (is : v ≡ value.Pointer p) where
  at_place : Becomes (core.UniqueFree x) ws known (λ next c. checked (nat_eq p.byte 0) (alone_freed (region_of p.area) next c))
  at_place marks c h next =
      ap (λ (u : Content). pointer_of u (λ s b. checked (nat_eq b 0) (alone_freed s.region next c))) (h.temps x ∙ sym read ∙ ap content_of is)

  module _ (first : nat_eq p.byte 0 ≡ true) where
    at_first : (a : Area) → p.area ≡ a → Becomes (core.UniqueFree x) ws known (λ next c. alone_freed (region_of a) next c)
    at_first a at marks c h next =
        at_place marks c h next ∙ ap (λ b. checked b (alone_freed (region_of p.area) next c)) first ∙ ap (λ (a : Area). alone_freed (region_of a) next c) at

    free_area : (is_done : Bool) (regions' : Regions) (a : Area) → p.area ≡ a → single_freed known.regions a ≡ (if is_done then Some regions' else None)
        → (is_done ≡ false → regions' ≡ known.regions)
        → IsMove (Execute (core.Do (core.UniqueFree x))) ws known (if is_done then Go (Leave steps.Falls) else Wrong) ws
        (record known { regions = regions' })
    free_area is_done regions' area.Globals at e kept =
        wrong_answer known ws (core.UniqueFree x) is_done regions' e kept (λ marks c h next.
        at_first area.Globals at marks c h next
        ∙ ap (λ (now : memory.Standing). checked (is_single now)
        (says (events.UniqueFree 0) (next (with_memory (with_standing c.memory (Born 0) Dead) c)))) h.born.lexical)
    free_area is_done regions' (area.Region n) at e kept =
        turn_answer known ws standing.Single None n (core.UniqueFree x) (events.UniqueFree (suc n)) tt (at_first (area.Region n) at) is_done regions' e kept
    free_area is_done regions' (area.Block k) at e kept =
        wrong_answer known ws (core.UniqueFree x) is_done regions' e kept (at_first (area.Block k) at)
    free_area is_done regions' (area.Own k) at e kept =
        wrong_answer known ws (core.UniqueFree x) is_done regions' e kept (at_first (area.Own k) at)

    pub free_answer : (is_done : Bool) (regions' : Regions) → single_freed known.regions p.area ≡ (if is_done then Some regions' else None)
        → (is_done ≡ false → regions' ≡ known.regions)
        → IsMove (Execute (core.Do (core.UniqueFree x))) ws known (if is_done then Go (Leave steps.Falls) else Wrong) ws
        (record known { regions = regions' })
    free_answer is_done regions' e kept = free_area is_done regions' p.area refl e kept
