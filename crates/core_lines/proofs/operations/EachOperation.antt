-- Each operation's code does as the operation means, whatever goes on behind it.
use Rattle.std.specs.Prelude.{slice_get, length, not, ◌&&◌}
use Rattle.std.proofs.Common.{◌≡◌, ℕ, ◌+◌, ◌*◌, ◌%◌, ◌^◌, ◌<◌, Bool, true, List, [], ◌∷◌, Some, refl, arith}
use Rattle.std.proofs.lemmas.Bool.{not-true, and_parts}
use Rattle.cyc_words.specs.Events.{ByteWritten}
use Rattle.rv32_machine.specs.State.{data_base}
use Rattle.step_trees.specs.Trees.{Pays, Says}
use Rattle.core_meaning.specs.Memory.{Frame, Own, Born, Content, Word, Null, Pointer, Birth, Memory, is_live, with_part, beyond}
use Rattle.core_meaning.specs.Core.{
  Operation,
  Constant,
  NullPointer,
  Move,
  Narrow,
  Apply,
  LocalAddress,
  OwnAddress,
  DataAddress,
  Offset,
  Element,
  Get,
  Put,
  Load,
  Store,
  Copy,
  Clear,
  IsNull,
  SamePlace,
  Getchar,
  Putchar,
  HeapHandle,
  RegionNew,
  RegionAlloc,
  RegionFree,
  UniqueAlloc,
  UniqueFree,
  KeyNew,
  KeyOpen,
  KeyClose,
  KeyFree,
}
use Rattle.core_meaning.specs.Words.{two}
use Rattle.core_meaning.specs.Steps.{Config, Step, with_temp, with_memory, word_of, pointer_of, checked}
use Rattle.core_meaning.specs.Operations.{does, reaches, reached, local_spot, at_once, fitting, are_elements, is_there, same_object, copied, cleared}
use Rattle.core_lines.specs.Machines.{Machine}
use Rattle.core_lines.specs.Lines.{code_length}
use Rattle.core_lines.specs.Held.{Number, Holding, with_source, held_behind_operation}
use Rattle.core_lines.specs.Loaded.{loads_of_operation}
use Rattle.core_lines.specs.Operands.{number_kept}
use Rattle.core_lines.specs.Saved.{results_of}
use Rattle.core_lines.specs.Selected.{Surroundings, nth, nth_block, operation_code}
use Rattle.core_lines.specs.Homes.{is_home}
use Rattle.core_meaning.specs.Selectable.{HasCode}
use Rattle.core_lines.proofs.memory.Relations.{Inside, home_of, Covers, Follows, keeping, AreKept, World, IsInOrder, Has, Waiting, At, Goes, active_of}
use Rattle.core_lines.proofs.memory.Moving.{Comes, goes_as}
use Rattle.core_lines.proofs.frames.Going.{with_config, IsIn, GoesHolding}
use Rattle.core_lines.proofs.operations.Registers.{having, AtHolding, fewer_holding, served_one, served_two, follows_none, number_into}
use Rattle.core_lines.proofs.homes.Nests.{BlocksAre, nth_is}
use Rattle.core_lines.proofs.homes.Fine.{IsFineOperation}
use Rattle.core_lines.proofs.operations.Operations.{constant, heap_handle, move, lowest}
use Rattle.core_lines.proofs.operations.Nulls.{null_is, pointer_is}
use Rattle.core_lines.proofs.operations.Applying.{applied}
use Rattle.core_lines.proofs.memory.Zero.{null_pointer}
use Rattle.core_lines.proofs.operations.Parts.{object_address}
use Rattle.core_lines.proofs.Streams.{putchar_goes, getchar_goes}
use Rattle.core_lines.proofs.operations.Needing.{word_goes, pointer_goes, null_goes, checked_goes, block_goes, places_go, reached_goes}
use Rattle.core_lines.proofs.Offsets.{offset}
use Rattle.core_lines.proofs.operations.Elements.{element}
use Rattle.core_lines.proofs.operations.Copying.{copy}
use Rattle.core_lines.proofs.operations.Clearing.{clear}
use Rattle.core_lines.proofs.operations.Comparing.{GivesTruth, compare_places, two_nulls, null_and_pointer, pointer_and_null, two_pointers}
use Rattle.core_lines.proofs.operations.PartOperations.{comes_from_any, sets, puts_part, reaches_goes, local_few, local_lies, get_either, put_either}
use Rattle.core_lines.proofs.operations.PartOperations.{load_goes, store_goes}
pub use Rattle.core_lines.proofs.operations.PartOperations.{OwnSmall, DataSmall, surrounding, scoped}
use Rattle.core_lines.proofs.regions.RegionOperations.{
  new_region_does,
  alloc_region_does,
  free_region_does,
  alloc_unique_does,
  free_unique_does,
  new_key_does,
  open_key_does,
  close_key_does,
  free_key_does,
}

-- an address of the data
data_address : (w : World) (order : IsInOrder w) (x : Waiting) (outer : List Waiting) (mem : Memory) (keeps : Bool) (after : List Bool)
    (t object place : ℕ) (hs : List Holding) → t < x.fn.temporaries → Follows keeps (t ∷ []) x.kept after → object < length w.data_offsets → DataSmall w
    → Has w place (number_kept keeps x.fn.passed t (data_base + nth w.data_offsets object))
    → Comes w (AtHolding w x outer mem place hs)
    (AtHolding w (keeping after (having t (Pointer (record { region = Born 0; object = object; cell = 0 }) 0) x)) outer mem
    (place + code_length (number_kept keeps x.fn.passed t (data_base + nth w.data_offsets object)))
    (with_source t (Number (data_base + nth w.data_offsets object)) hs))
data_address w order x outer mem keeps after t object place hs named follows is_object small has =
    let found = nth_is w.data_offsets object is_object in
    let few = small object (nth w.data_offsets object) found in
    number_into w order x outer mem keeps after t (data_base + nth w.data_offsets object) place
    (Pointer (record { region = Born 0; object = object; cell = 0 }) 0) hs named follows (omega (arith, few))
    (λ s a. record {
      base = data_base + nth w.data_offsets object;
      known = a.stands.data_based object (nth w.data_offsets object) found;
      at = omega arith;
      positive = omega arith;
    }) has

-- what goes on where fewer slots show their words goes on where more do
goes_fewer : (w : World) (x : Waiting) (outer : List Waiting) (fuel place : ℕ) (held : List Holding) (next : Config → Step) (flags : List Bool)
    → Covers x.kept flags → GoesHolding w (keeping flags x) outer fuel place held next → GoesHolding w x outer fuel place held next
goes_fewer w x outer fuel place held next flags covers goes c is =
    let y = with_config x c in
    goes_as w (AtHolding w y outer c.memory place held) (active_of w (x ∷ outer)) fuel (next c) (AtHolding w (keeping flags y) outer c.memory place held)
    (λ s a. fewer_holding w y outer c.memory place held flags s covers a) (goes c (record { blocks = is.blocks; own = is.own }))

module _ (w : World) (order : IsInOrder w) (x : Waiting) (outer : List Waiting) (small : DataSmall w) (own_small : OwnSmall x) (ns : List ℕ)
    (oss hss : List (List ℕ)) (names : List ℕ) (low : ℕ) (held : List Holding)
    (are : BlocksAre ns x.nest oss hss) (inside : x.phase ≡ Inside)
    (are_homes : (out local r : ℕ) → home_of (nth_block hss out) local ≡ Some r → is_home r ≡ true) (fuel place : ℕ) (next : Config → Step) where
  abbrev u : Surroundings
  u = surrounding w x oss hss names low held

  abbrev behind : Operation → List Holding
  behind o = held_behind_operation hss w.data_offsets held o

  abbrev At_first : Config → Machine → Type 0
  At_first c = AtHolding w (with_config x c) outer c.memory place held

  abbrev active : List (List ℕ)
  active = active_of w (x ∷ outer)

  -- where an operation ends
  abbrev End : Bool → Operation → ℕ
  End keeps o = place + code_length (operation_code keeps u o)

  abbrev Ends : Bool → List Bool → Operation → Type 0
  Ends keeps after o = GoesHolding w (keeping after x) outer fuel (End keeps o) (behind o) next

  -- it sets a temporary, or stores to the memory
  gives : (o : Operation) (keeps : Bool) (after : List Bool) (c : Config) (t : ℕ) (v : Content) → IsIn x c
      → Comes w (At_first c) (AtHolding w (keeping after (having t v (with_config x c))) outer c.memory (End keeps o) (behind o)) → Ends keeps after o
      → Goes w fuel (next (with_temp t v c)) (At_first c) active
  gives o keeps after c t v is comes ends = sets w order x outer held fuel place next c after t v (behind o) (operation_code keeps u o) is comes ends

  changes : (o : Operation) (keeps : Bool) (c : Config) (m : Memory) → IsIn x c
      → Comes w (At w (with_config x c) outer c.memory place) (AtHolding w (with_config x c) outer m (End keeps o) (behind o))
      → GoesHolding w x outer fuel (End keeps o) (behind o) next → Goes w fuel (next (with_memory m c)) (At_first c) active
  changes o keeps c m is comes ends =
      puts_part w order x outer held fuel place next c m (behind o) (operation_code keeps u o) is
      (comes_from_any w order x outer held fuel place next c (AtHolding w (with_config x c) outer m (End keeps o) (behind o)) comes) ends

  -- an operation without a result
  no_result : (o : Operation) (keeps : Bool) (after : List Bool) → Follows keeps [] x.kept after → Ends keeps after o
      → GoesHolding w x outer fuel (End keeps o) (behind o) next
  no_result o keeps after follows ends =
      goes_fewer w x outer fuel (End keeps o) (behind o) next after (follows_none keeps x.kept after follows) ends

  pub operation_goes : (o : Operation) (keeps : Bool) (after : List Bool) → HasCode (scoped w x ns) o → AreKept w x (loads_of_operation held o)
      → Follows keeps (results_of o) x.kept after → IsFineOperation hss o → Has w place (operation_code keeps u o)
      → GoesHolding w (keeping after x) outer fuel (place + code_length (operation_code keeps u o)) (held_behind_operation hss w.data_offsets held o) next
      → GoesHolding w x outer fuel place held (does o next)
  operation_goes (Constant t v) keeps after named kept follows fine has ends c is =
      gives (Constant t v) keeps after c t (Word (v % 2 ^ 32)) is
      (constant w order (with_config x c) outer c.memory keeps after t named follows (v % 2 ^ 32) place held (omega arith) has) ends
  operation_goes (NullPointer t) keeps after named kept follows fine has ends c is =
      gives (NullPointer t) keeps after c t Null is (null_pointer w order (with_config x c) outer c.memory after t named place held keeps follows has) ends
  operation_goes (Move t y) keeps after named kept follows fine has ends c is =
      gives (Move t y) keeps after c t (c.temps y) is
      (move w order (with_config x c) outer c.memory keeps after t named.0 follows y place held named.1 (served_one w x held y kept) has) ends
  operation_goes (Narrow t y) keeps after named kept follows fine has ends c is =
      word_goes w (At_first c) active fuel (c.temps y) (λ n. next (with_temp t (Word (n % 256)) c)) (λ n e.
      gives (Narrow t y) keeps after c t (Word (n % 256)) is
      (lowest w order (with_config x c) outer c.memory keeps after t named.0 follows y n place held named.1 (served_one w x held y kept) e has) ends)
  operation_goes (Apply o t y z) keeps after named kept follows fine has ends c is =
      let served = served_two w x held y z kept in
      word_goes w (At_first c) active fuel (c.temps y) (λ a. word_of (c.temps z) (λ b. next (with_temp t (Word (two o a b)) c))) (λ a e.
      word_goes w (At_first c) active fuel (c.temps z) (λ b. next (with_temp t (Word (two o a b)) c)) (λ b e'.
      gives (Apply o t y z) keeps after c t (Word (two o a b)) is
      (applied w order (with_config x c) outer c.memory keeps after t named.0 follows u o y z a b place held named.1 named.2 served.0 served.1 e e' has)
      ends))
  operation_goes (LocalAddress t out local) keeps after named kept follows fine has ends c is =
      block_goes w (At_first c) active fuel (slice_get c.blocks out) (λ k. next (with_temp t (Pointer (local_spot k local) 0) c)) (λ k e.
      gives (LocalAddress t out local) keeps after c t (Pointer (local_spot k local) 0) is
      (object_address w order (with_config x c) outer c.memory held (Frame k) local (nth (nth_block oss out) local)
      (local_few w order x outer held fuel place next ns oss hss are out local named.1)
      (local_lies w order x outer held fuel place next ns oss hss are c out local k named.1 fine e) t keeps after named.0 follows place has) ends)
  operation_goes (OwnAddress t object) keeps after named kept follows fine has ends c is =
      let found = nth_is x.unnamed object named.1 in
      gives (OwnAddress t object) keeps after c t (Pointer (record { region = Own c.own; object = object; cell = 0 }) 0) is
      (object_address w order (with_config x c) outer c.memory held (Own c.own) object (nth x.unnamed object)
      (own_small object (nth x.unnamed object) found)
      (λ m a f. f.own_based object (nth x.unnamed object) found) t keeps after named.0 follows place has) ends
  operation_goes (DataAddress t object) keeps after named kept follows fine has ends c is =
      gives (DataAddress t object) keeps after c t (Pointer (record { region = Born 0; object = object; cell = 0 }) 0) is
      (data_address w order (with_config x c) outer c.memory keeps after t object place held named.0 follows named.1 small has) ends
  operation_goes (Offset t p cells bytes) keeps after named kept follows fine has ends c is =
      pointer_goes w (At_first c) active fuel (c.temps p)
      (λ s b. checked (reaches c.memory (beyond s cells) (b + bytes)) (next (with_temp t (Pointer (beyond s cells) (b + bytes)) c))) (λ s b e.
      reaches_goes w order x outer held fuel place next c (beyond s cells) (b + bytes) (next (with_temp t (Pointer (beyond s cells) (b + bytes)) c)) (λ near.
      gives (Offset t p cells bytes) keeps after c t (Pointer (beyond s cells) (b + bytes)) is
      (offset w order (with_config x c) outer c.memory keeps after t named.0 follows p cells bytes b s held place named.1 (served_one w x held p kept) e near
      has) ends))
  operation_goes (Element t p i cells bytes) keeps after named kept follows fine has ends c is =
      let served = served_two w x held i p kept in
      pointer_goes w (At_first c) active fuel (c.temps p) (λ s b. word_of (c.temps i) (λ n. checked (reaches c.memory (beyond s (n * cells)) (b + n * bytes))
      (next (with_temp t (Pointer (beyond s (n * cells)) (b + n * bytes)) c)))) (λ s b e.
      word_goes w (At_first c) active fuel (c.temps i) (λ n. checked (reaches c.memory (beyond s (n * cells)) (b + n * bytes))
      (next (with_temp t (Pointer (beyond s (n * cells)) (b + n * bytes)) c))) (λ n e'.
      reaches_goes w order x outer held fuel place next c (beyond s (n * cells)) (b + n * bytes)
      (next (with_temp t (Pointer (beyond s (n * cells)) (b + n * bytes)) c)) (λ near.
      gives (Element t p i cells bytes) keeps after c t (Pointer (beyond s (n * cells)) (b + n * bytes)) is
      (element w order (with_config x c) outer c.memory held p i cells bytes n b s named.1 named.2 served.1 served.0 e e' named.3 near keeps after t
      named.0 follows place has) ends)))
  operation_goes (Get t out local width) keeps after named kept follows fine has ends c is =
      block_goes w (At_first c) active fuel (slice_get c.blocks out)
      (λ k. reached c.memory (at_once width) (local_spot k local) 0 (λ there part. next (with_temp t part.content c))) (λ k e.
      reached_goes w (At_first c) active fuel c.memory (at_once width) (local_spot k local) 0 (λ there part. next (with_temp t part.content c))
      (λ part found live offset wide.
      get_either w order x outer held fuel place next ns oss hss are names low inside are_homes c keeps after t named.0 follows out local k width
      (nth (nth_block hss out) local) is named.1 refl e part found live offset wide has ends))
  operation_goes (Put out local width y) keeps after named kept follows fine has ends c is =
      block_goes w (At_first c) active fuel (slice_get c.blocks out)
      (λ k. reached c.memory (at_once width) (local_spot k local) 0 (λ there part.
      next (with_memory (with_part c.memory there 0 (record part { content = fitting width (c.temps y) })) c))) (λ k e.
      reached_goes w (At_first c) active fuel c.memory (at_once width) (local_spot k local) 0
      (λ there part. next (with_memory (with_part c.memory there 0 (record part { content = fitting width (c.temps y) })) c)) (λ part found live offset wide.
      put_either w order x outer held fuel place next ns oss hss are names low inside are_homes c y out local k width (nth (nth_block hss out) local) is
      named.0 (served_one w x held y kept) named.1 refl e part found live offset wide has (no_result (Put out local width y) keeps after follows ends)))
  operation_goes (Load t p d) keeps after named kept follows fine has ends c is =
      pointer_goes w (At_first c) active fuel (c.temps p) (λ s b. reached c.memory d s b (λ there part. next (with_temp t part.content c))) (λ s b e.
      reached_goes w (At_first c) active fuel c.memory d s b (λ there part. next (with_temp t part.content c)) (λ part found live offset wide.
      load_goes w order x outer held fuel place next c keeps after t named.0 follows p d.cells d.part d.bytes b s is named.1 (served_one w x held p kept) e
      part found live offset d.width wide has ends))
  operation_goes (Store p d y) keeps after named kept follows fine has ends c is =
      let served = served_two w x held p y kept in
      pointer_goes w (At_first c) active fuel (c.temps p)
      (λ s b. reached c.memory d s b (λ there part. next (with_memory (with_part c.memory there d.part
      (record part { content = fitting d.width (c.temps y) })) c))) (λ s b e.
      reached_goes w (At_first c) active fuel c.memory d s b
      (λ there part. next (with_memory (with_part c.memory there d.part (record part { content = fitting d.width (c.temps y) })) c))
      (λ part found live offset wide.
      store_goes w order x outer held fuel place next c p y d.cells d.part d.bytes b s is named.0 named.1 served.0 served.1 e part found live offset d.width
      wide has (no_result (Store p d y) keeps after follows ends)))
  operation_goes (Copy to from l) keeps after named kept follows fine has ends c is =
      pointer_goes w (At_first c) active fuel (c.temps to) (λ s b. pointer_of (c.temps from) (λ t d.
      checked (is_there c.memory l s b && (is_there c.memory l t d && not (same_object s t))) (next (with_memory (copied l s t c.memory) c)))) (λ s b e.
      pointer_goes w (At_first c) active fuel (c.temps from) (λ t d.
      checked (is_there c.memory l s b && (is_there c.memory l t d && not (same_object s t))) (next (with_memory (copied l s t c.memory) c))) (λ t d e'.
      checked_goes w (At_first c) active fuel (is_there c.memory l s b && (is_there c.memory l t d && not (same_object s t)))
      (next (with_memory (copied l s t c.memory) c)) (λ all.
      let both = and_parts (is_there c.memory l s b) (is_there c.memory l t d && not (same_object s t)) all in
      let others = and_parts (is_there c.memory l t d) (not (same_object s t)) both.1 in
      changes (Copy to from l) keeps c (copied l s t c.memory) is
      (copy w order (with_config x c) outer c.memory l named.2 named.3 s t b d both.0 others.0 (not-true (same_object s t) others.1) to from named.0 kept.0
      named.1 kept.1.0 e e' place has) (no_result (Copy to from l) keeps after follows ends))))
  operation_goes (Clear p l count) keeps after named kept follows fine has ends c is =
      pointer_goes w (At_first c) active fuel (c.temps p) (λ s b.
      checked (is_live (c.memory.standing s.region) && are_elements c.memory s b l count) (next (with_memory (cleared l count s c.memory) c))) (λ s b e.
      checked_goes w (At_first c) active fuel (is_live (c.memory.standing s.region) && are_elements c.memory s b l count)
      (next (with_memory (cleared l count s c.memory) c)) (λ all.
      let both = and_parts (is_live (c.memory.standing s.region)) (are_elements c.memory s b l count) all in
      changes (Clear p l count) keeps c (cleared l count s c.memory) is
      (clear w order (with_config x c) outer c.memory l named.1 named.2 named.3 count s b both.0 both.1 p named.0 kept.0 e place has)
      (no_result (Clear p l count) keeps after follows ends)))
  operation_goes (IsNull t p) keeps after named kept follows fine has ends c is =
      let y = with_config x c in
      let served = served_one w x held p kept in
      null_goes w (At_first c) active fuel (c.temps p) (λ n. next (with_temp t (Word n) c))
      (λ e. gives (IsNull t p) keeps after c t (Word 1) is
      (null_is w order y outer c.memory keeps after t named.0 follows p place held named.1 served e has) ends)
      (λ s b e. gives (IsNull t p) keeps after c t (Word 0) is
      (pointer_is w order y outer c.memory keeps after t named.0 follows p place held named.1 served s b e has) ends)
  operation_goes (SamePlace t p q) keeps after named kept follows fine has ends c is =
      let y = with_config x c in
      let served = served_two w x held p q kept in
      places_go w (At_first c) active fuel c.memory (λ n. next (with_temp t (Word n) c)) (GivesTruth w order y outer c.memory)
      (two_nulls w order y outer c.memory) (null_and_pointer w order y outer c.memory) (pointer_and_null w order y outer c.memory)
      (two_pointers w order y outer c.memory) (c.temps p) (c.temps q)
      (λ n small truth. gives (SamePlace t p q) keeps after c t (Word n) is
      (compare_places w order y outer c.memory keeps after t named.0 follows p q n place held named.1 named.2 small served.0 served.1 truth has) ends)
  operation_goes (Getchar t) keeps after named kept follows fine has ends c is =
      getchar_goes w order (with_config x c) outer c.memory held fuel active next c t place named keeps after follows has
      (λ v. ends (with_temp t v c) (record { blocks = is.blocks; own = is.own }))
  operation_goes (Putchar t y) keeps after named kept follows fine has ends c is =
      word_goes w (At_first c) active fuel (c.temps y)
      (λ n. Pays (λ left. Says (Rattle.core_meaning.specs.Steps.Visible (ByteWritten (n % 256))) (next (with_temp t (Word (n % 256)) left))) c) (λ n e.
      putchar_goes w order (with_config x c) outer c.memory held fuel active (λ left. next (with_temp t (Word (n % 256)) left)) c t place named.0 keeps after
      follows y n named.1 (served_one w x held y kept) e has (ends (with_temp t (Word (n % 256)) c) (record { blocks = is.blocks; own = is.own })))
  operation_goes (HeapHandle t) keeps after named kept follows fine has ends c is =
      gives (HeapHandle t) keeps after c t (Birth 0) is (heap_handle w order (with_config x c) outer c.memory keeps after t named follows place held has) ends
  operation_goes (RegionNew t) keeps after named kept follows fine has ends c is =
      new_region_does w order x outer fuel place held next t named keeps after follows has ends c is
  operation_goes (RegionAlloc t h n l) keeps after named kept follows fine has ends c is =
      let served = served_two w x held h n kept in
      alloc_region_does w order x outer fuel place held next t named.0 keeps after follows h n l named.1 served.0 named.2 served.1 named.3 has ends c is
  operation_goes (RegionFree h) keeps after named kept follows fine has ends c is =
      free_region_does w order x outer fuel place held next h named (served_one w x held h kept) has (no_result (RegionFree h) keeps after follows ends) c is
  operation_goes (UniqueAlloc t l) keeps after named kept follows fine has ends c is =
      alloc_unique_does w order x outer fuel place held next t named.0 keeps after follows l named.1 named.2 has ends c is
  operation_goes (UniqueFree p) keeps after named kept follows fine has ends c is =
      free_unique_does w order x outer fuel place held next p named (served_one w x held p kept) has (no_result (UniqueFree p) keeps after follows ends) c is
  operation_goes (KeyNew t) keeps after named kept follows fine has ends c is =
      new_key_does w order x outer fuel place held next t named keeps after follows has ends c is
  operation_goes (KeyOpen k) keeps after named kept follows fine has ends c is =
      open_key_does w order x outer fuel place held next k named (served_one w x held k kept) has (no_result (KeyOpen k) keeps after follows ends) c is
  operation_goes (KeyClose k) keeps after named kept follows fine has ends c is =
      close_key_does w order x outer fuel place held next k named (served_one w x held k kept) has (no_result (KeyClose k) keeps after follows ends) c is
  operation_goes (KeyFree k) keeps after named kept follows fine has ends c is =
      free_key_does w order x outer fuel place held next k named (served_one w x held k kept) has (no_result (KeyFree k) keeps after follows ends) c is
