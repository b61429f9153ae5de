-- Believed: what each operation of Core does.
use Rattle.std.specs.Prelude.{ℕ, zero, suc, ◌+◌, ◌-◌, ◌*◌, ◌%◌, ◌^◌, Bool, true, false, not, ◌&&◌, ◌||◌, List, [], ◌∷◌, nat_eq, nat_lt, nat_le, if◌then◌else◌}
use Rattle.std.specs.Prelude.{Option, Some, None, slice_get, length}
use Rattle.cyc_words.specs.Events as events
use Rattle.step_trees.specs.Trees.{Says, Reads, Pays}
use Rattle.core_meaning.specs.Memory.{
  Region,
  Frame,
  Own,
  Born,
  Standing,
  Live,
  Opened,
  Single,
  Closed,
  Dead,
  Spot,
  Content,
  Blank,
  Word,
  Null,
  Pointer,
  Birth,
  Part,
  Memory,
  same_region,
  same_spot,
  is_live,
  is_lexical,
  is_opened,
  is_single,
  is_closed,
  part_at,
  with_standing,
  with_part,
  PartShape,
  Layout,
  shape_in,
  blanks,
  with_object,
  first_spot,
  beyond,
}
use Rattle.core_meaning.specs.Core.{
  Distance,
  Operation,
  Constant,
  NullPointer,
  Move,
  Narrow,
  Apply,
  LocalAddress,
  OwnAddress,
  DataAddress,
  Offset,
  Element,
  Get,
  Put,
  Load,
  Store,
  Copy,
  Clear,
  IsNull,
  SamePlace,
  Getchar,
  Putchar,
  HeapHandle,
  RegionNew,
  RegionAlloc,
  RegionFree,
  UniqueAlloc,
  UniqueFree,
  KeyNew,
  KeyOpen,
  KeyClose,
  KeyFree,
}
use Rattle.core_meaning.specs.Words.{truth, two}
use Rattle.core_meaning.specs.Steps.{Config, with_temp, with_memory, Visible, Step, stuck, word_of, pointer_of, birth_of, needed, checked}

-- the part at a distance from a pointer has to lie at the distance's bytes, and to have its width
abbrev pub reached : Memory → Distance → Spot → ℕ → (Spot → Part → Step) → Step
reached m d s b next =
    needed (part_at m (beyond s d.cells) d.part) (λ p.
    checked (nat_eq p.offset (b + d.bytes) && nat_eq p.width d.width) (next (beyond s d.cells) p))

-- where a local of the block's activation k begins, and its one part
abbrev pub local_spot : ℕ → ℕ → Spot
local_spot k local = record { region = Frame k; object = local; cell = 0 }

abbrev pub at_once : ℕ → Distance
at_once width = record { cells = 0; bytes = 0; part = 0; width = width }

-- what a part of a width can hold: a byte has the low bits of a word, and nothing else
abbrev pub low_byte : Content → Content
low_byte (Word n) = Word (n % 256)
low_byte Blank = Blank
low_byte Null = Blank
low_byte (Pointer s b) = Blank
low_byte (Birth d) = Blank

abbrev pub fitting : ℕ → Content → Content
fitting width v = (if nat_eq width 1 then low_byte v else v)

abbrev pub is_null : Content → (ℕ → Step) → Step
is_null Null next = next 1
is_null (Pointer s b) next = next 0
is_null Blank next = stuck
is_null (Word n) next = stuck
is_null (Birth d) next = stuck

-- NULL, or two pointers to parts of live regions, each at the byte that its pointer carries
abbrev pub same_place : Memory → Content → Content → (ℕ → Step) → Step
same_place m Null y next = is_null y next
same_place m (Pointer s b) Null next = next 0
same_place m (Pointer s b) (Pointer t c) next =
    needed (part_at m s 0) (λ p. needed (part_at m t 0) (λ q.
    checked (nat_eq p.offset b && nat_eq q.offset c) (next (truth (same_spot s t)))))
same_place m (Pointer s b) Blank next = stuck
same_place m (Pointer s b) (Word n) next = stuck
same_place m (Pointer s b) (Birth d) next = stuck
same_place m Blank y next = stuck
same_place m (Word n) y next = stuck
same_place m (Birth d) y next = stuck

-- a number of bytes, and the greatest word if it is more
abbrev pub saturated : ℕ → ℕ
saturated n = (if nat_lt n (2 ^ 32) then n else 2 ^ 32 - 1)

-- more bytes than an object that is granted has
abbrev pub too_far : ℕ
too_far = 2 ^ 25

-- whether a part has this offset in bytes
abbrev pub lies_at : Option Part → ℕ → Bool
lies_at None b = false
lies_at (Some p) b = nat_eq p.offset b

-- A pointer goes less than too far from where its object begins, or to where a part lies. That is asked of parts whether or not their region is live: a pointer
-- into
-- a region that ended may go on within its object.
abbrev pub reaches : Memory → Spot → ℕ → Bool
reaches m s b = nat_lt b too_far || lies_at (m.parts s 0) b

-- ---- whole objects

-- a part lies where a layout has one, from a byte on, and is as wide
abbrev pub is_part : Option Part → ℕ → PartShape → Bool
is_part None b s = false
is_part (Some p) b s = nat_eq p.offset (b + s.offset) && nat_eq p.width s.width

-- so do those of a cell, from the j-th on
abbrev pub are_parts : Memory → Spot → ℕ → ℕ → List PartShape → Bool
are_parts m s b j [] = true
are_parts m s b j (x ∷ xs) = is_part (m.parts s j) b x && are_parts m s b (suc j) xs

-- and those of the cells from a spot on
abbrev pub are_laid : Memory → Spot → ℕ → List (List PartShape) → Bool
are_laid m s b [] = true
are_laid m s b (x ∷ xs) = are_parts m s b 0 x && are_laid m (beyond s 1) b xs

-- and those of a number of elements of a layout
abbrev pub are_elements : Memory → Spot → ℕ → Layout → ℕ → Bool
are_elements m s b l zero = true
are_elements m s b l (suc n) = are_laid m s b l.cells && are_elements m (beyond s (length l.cells)) (b + l.bytes) l n

-- from a spot and a byte on there is an object of a layout, in a live region
abbrev pub is_there : Memory → Layout → Spot → ℕ → Bool
is_there m l s b = is_live (m.standing s.region) && are_laid m s b l.cells

abbrev pub same_object : Spot → Spot → Bool
same_object s t = same_region s.region t.region && nat_eq s.object t.object

-- how many cells lie between a spot and another one of its object, if that is one of the `count` cells from the first spot on
abbrev pub cells_on : ℕ → Spot → Spot → Option ℕ
cells_on count s t = (if same_object t s && (nat_le s.cell t.cell && nat_lt t.cell (s.cell + count)) then Some (t.cell - s.cell) else None)

-- the shape of a layout's part, if there is one
abbrev pub part_of : Layout → Option ℕ → ℕ → Option PartShape
part_of l None j = None
part_of l (Some k) j = shape_in (slice_get l.cells k) j

abbrev pub content_from : Part → Option Part → Option Part
content_from p None = Some p
content_from p (Some q) = Some (record p { content = q.content })

-- the spot that is a number of cells on from another one
abbrev pub on_from : Spot → Option ℕ → Spot
on_from s None = s
on_from s (Some k) = beyond s k

-- the layout's parts from a spot on get what those from another have
abbrev pub copied : Layout → Spot → Spot → Memory → Memory
copied l to from m = record m { parts = λ t j. copied_part (cells_on (length l.cells) to t) j (m.parts t j) }
  where
    copied_part : Option ℕ → ℕ → Option Part → Option Part
    copied_part k j None = None
    copied_part k j (Some p) = by (part_of l k j)
      where
        by : Option PartShape → Option Part
        by None = Some p
        by (Some s) = content_from p (m.parts (on_from from k) j)

-- the number of a cell in its element
abbrev pub in_element : Layout → Option ℕ → Option ℕ
in_element l None = None
in_element l (Some k) = Some (k % length l.cells)

abbrev pub begun : Part → Option PartShape → Part
begun p None = p
begun p (Some s) = record p { content = s.first }

-- the parts of `count` elements of a layout, from a spot on, get what they begin with
abbrev pub cleared : Layout → ℕ → Spot → Memory → Memory
cleared l count to m = record m { parts = λ t j. cleared_part (in_element l (cells_on (count * length l.cells) to t)) j (m.parts t j) }
  where
    cleared_part : Option ℕ → ℕ → Option Part → Option Part
    cleared_part k j None = None
    cleared_part k j (Some p) = Some (begun p (part_of l k j))

abbrev pub born : Standing → Memory → Memory
born now m = with_standing (record m { births = m.births + 1 }) (Born m.births) now

abbrev pub byte_word : Option ℕ → ℕ
byte_word None = 2 ^ 32 - 1
byte_word (Some byte) = byte

abbrev pub says : events.Event → Step → Step
says e next = Says (Visible e) next

-- a unique block is freed with its region
abbrev pub alone_freed : Region → (Config → Step) → Config → Step
alone_freed (Frame k) next c = stuck
alone_freed (Own k) next c = stuck
alone_freed (Born d) next c =
    checked (is_single (c.memory.standing (Born d))) (says (events.UniqueFree d) (next (with_memory (with_standing c.memory (Born d) Dead) c)))

-- ---- operations; the heap is the first region that was born, and is never freed

abbrev pub does : Operation → (Config → Step) → Config → Step
does (Constant t w) next c = next (with_temp t (Word (w % 2 ^ 32)) c)
does (NullPointer t) next c = next (with_temp t Null c)
does (Move t x) next c = next (with_temp t (c.temps x) c)
does (Narrow t x) next c = word_of (c.temps x) (λ n. next (with_temp t (Word (n % 256)) c))
does (Apply o t x y) next c = word_of (c.temps x) (λ a. word_of (c.temps y) (λ b. next (with_temp t (Word (two o a b)) c)))
does (LocalAddress t out local) next c =
    needed (slice_get c.blocks out) (λ k. next (with_temp t (Pointer (local_spot k local) 0) c))
does (OwnAddress t object) next c = next (with_temp t (Pointer (record { region = Own c.own; object = object; cell = 0 }) 0) c)
does (DataAddress t object) next c = next (with_temp t (Pointer (record { region = Born 0; object = object; cell = 0 }) 0) c)
does (Offset t p cells bytes) next c =
    pointer_of (c.temps p) (λ s b. checked (reaches c.memory (beyond s cells) (b + bytes)) (next (with_temp t (Pointer (beyond s cells) (b + bytes)) c)))
does (Element t p i cells bytes) next c =
    pointer_of (c.temps p) (λ s b. word_of (c.temps i) (λ n. checked (reaches c.memory (beyond s (n * cells)) (b + n * bytes))
    (next (with_temp t (Pointer (beyond s (n * cells)) (b + n * bytes)) c))))
does (Get t out local width) next c =
    needed (slice_get c.blocks out) (λ k. reached c.memory (at_once width) (local_spot k local) 0 (λ there part. next (with_temp t part.content c)))
does (Put out local width x) next c =
    needed (slice_get c.blocks out) (λ k. reached c.memory (at_once width) (local_spot k local) 0 (λ there part.
    next (with_memory (with_part c.memory there 0 (record part { content = fitting width (c.temps x) })) c)))
does (Load t p d) next c = pointer_of (c.temps p) (λ s b. reached c.memory d s b (λ there part. next (with_temp t part.content c)))
does (Store p d x) next c =
    pointer_of (c.temps p) (λ s b. reached c.memory d s b (λ there part.
    next (with_memory (with_part c.memory there d.part (record part { content = fitting d.width (c.temps x) })) c)))
does (Copy to from l) next c =
    pointer_of (c.temps to) (λ s b. pointer_of (c.temps from) (λ t e.
    checked (is_there c.memory l s b && (is_there c.memory l t e && not (same_object s t))) (next (with_memory (copied l s t c.memory) c))))
does (Clear p l count) next c =
    pointer_of (c.temps p) (λ s b.
    checked (is_live (c.memory.standing s.region) && are_elements c.memory s b l count) (next (with_memory (cleared l count s c.memory) c)))
does (IsNull t p) next c = is_null (c.temps p) (λ n. next (with_temp t (Word n) c))
does (SamePlace t p q) next c = same_place c.memory (c.temps p) (c.temps q) (λ n. next (with_temp t (Word n) c))
does (Getchar t) next c = Pays (λ kept. Reads (λ byte. next (with_temp t (Word (byte_word byte)) kept))) c
does (Putchar t x) next c =
    word_of (c.temps x) (λ n. Pays (λ kept. says (events.ByteWritten (n % 256)) (next (with_temp t (Word (n % 256)) kept))) c)
does (HeapHandle t) next c = next (with_temp t (Birth 0) c)
does (RegionNew t) next c =
    let d = c.memory.births in says (events.RegionNew d) (next (with_temp t (Birth d) (with_memory (born Live c.memory) c)))
does (RegionAlloc t h n l) next c =
    birth_of (c.temps h) (λ d. word_of (c.temps n) (λ count. checked (is_live (c.memory.standing (Born d)))
    (says (events.RegionAlloc d (saturated (count * l.bytes)))
    (next (with_temp t (Pointer (first_spot c.memory (Born d)) 0) (with_memory (with_object c.memory (Born d) (blanks l count)) c))))))
does (RegionFree h) next c =
    birth_of (c.temps h) (λ d. checked (not (nat_eq d 0) && is_lexical (c.memory.standing (Born d)))
    (says (events.RegionFree d) (next (with_memory (with_standing c.memory (Born d) Dead) c))))
does (UniqueAlloc t l) next c =
    let d = c.memory.births in
    says (events.UniqueAlloc d l.bytes)
    (next (with_temp t (Pointer (record { region = Born d; object = 0; cell = 0 }) 0)
    (with_memory (with_object (born Single c.memory) (Born d) (blanks l 1)) c)))
does (UniqueFree p) next c = pointer_of (c.temps p) (λ s b. checked (nat_eq b 0) (alone_freed s.region next c))
does (KeyNew t) next c =
    let d = c.memory.births in says (events.KeyNew d) (next (with_temp t (Birth d) (with_memory (born Closed c.memory) c)))
does (KeyOpen k) next c =
    birth_of (c.temps k) (λ d. checked (is_closed (c.memory.standing (Born d)))
    (says (events.KeyOpen d) (next (with_memory (with_standing c.memory (Born d) Opened) c))))
does (KeyClose k) next c =
    birth_of (c.temps k) (λ d. checked (is_opened (c.memory.standing (Born d)))
    (says (events.KeyClose d) (next (with_memory (with_standing c.memory (Born d) Closed) c))))
does (KeyFree k) next c =
    birth_of (c.temps k) (λ d. checked (is_closed (c.memory.standing (Born d)))
    (says (events.KeyFree d) (next (with_memory (with_standing c.memory (Born d) Dead) c))))
