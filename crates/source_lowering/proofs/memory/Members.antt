-- A member of an object lies where the struct has it, in the source and in Core.
use Rattle.std.proofs.Common.{◌≡◌, ℕ, suc, ◌+◌, ◌-◌, ◌≤◌, List, [], ◌∷◌, ◌++◌, map, length, max, Bool, true, false, Some, refl, sym, ap, ◌∙◌, subst, arith}
use Rattle.std.specs.Prelude.{bytes_eq, nat_lt}
use Rattle.std.proofs.lemmas.Bool.{eq-eqb, or_right}
use Rattle.std.proofs.lemmas.List.{length-map}
use Rattle.source_meaning.proofs.Layouts.{laid_above, rounded_above}
use Rattle.source_meaning.specs.Shapes.{
  Shape,
  IntShape,
  UnsignedShape,
  CharShape,
  VoidShape,
  ThinShape,
  FatShape,
  HandleShape,
  KeyShape,
  StructShape,
  UnionShape,
  ArrayShape,
  Part,
  Layout,
  parts_of,
  part_shape,
  part_shapes,
}
use Rattle.source_meaning.specs.Sizes.{Extent, rounded_up, all_cells, cells_before, laid_out, no_extent}
use Rattle.source_meaning.specs.Placing.{Placed, moved, all_placed}
use Rattle.source_meaning.specs.Memory as source
use Rattle.source_meaning.specs.Memory.{Spot}
use Rattle.source_meaning.specs.Steps.{World}
use Rattle.source_meaning.specs.Conversions.{cells_of}
use Rattle.source_meaning.specs.Places.{struct_parts}
use Rattle.core_meaning.specs.Memory as core
use Rattle.core_meaning.specs.Memory.{Content}
use Rattle.core_meaning.specs.Operations.{too_far, lies_at, reaches}
use Rattle.core_meaning.proofs.Wholes.{beyond_none, beyond_both}
use Rattle.source_lowering.specs.ObjectCells.{IsCellShape}
use Rattle.source_lowering.specs.Layouts.{has_fat, union_pieces, cell_pieces}
use Rattle.source_lowering.specs.Layouts.{Piece, piece, pieces_of, first_part, part_shape_of, padding, next_at, padded, layout_of, extent_of, bytes_before}
use Rattle.source_lowering.specs.Layouts.{placed_of}
use Rattle.source_lowering.specs.Lowered.{width_of, member_shape}
use Rattle.source_lowering.specs.Lowerable.{IsWordShape, IsValueShape, IsObject, AreObjects, AreStructs}
use Rattle.source_lowering.proofs.Structs.{cells_in, placed_in, extent_in, IsMade, struct_made}
use Rattle.source_lowering.proofs.memory.StructCells.{AllHaveCells, HasCells, shapes_in, shapes_count, AreCellShapes, object_cells}
use Rattle.source_lowering.specs.Simulation.{at, PartIs, AreShaped, AreMade, AreCells, Leads, IsTakenObject}
use Rattle.source_lowering.proofs.memory.MovedParts.{made_moved, padded_moved}

-- ---- the first part

pub word_pieces : (s : Shape) → IsWordShape s → pieces_of s ≡ piece 0 (width_of s) (first_part s) ∷ []
word_pieces IntShape h = refl
word_pieces UnsignedShape h = refl
word_pieces CharShape h = refl
word_pieces VoidShape h = absurd h
word_pieces (ThinShape may_be_null owner to) h = refl
word_pieces (FatShape to) h = absurd h
word_pieces HandleShape h = refl
word_pieces KeyShape h = refl
word_pieces (StructShape tag) h = absurd h
word_pieces (UnionShape tag) h = absurd h
word_pieces (ArrayShape count of) h = absurd h

-- a union's pieces behind its tag
abbrev pub words_behind : Bool → List Piece
words_behind false = piece 4 4 core.Blank ∷ []
words_behind true = piece 4 4 core.Blank ∷ piece 8 4 core.Blank ∷ piece 12 4 core.Blank ∷ []

pub tag_first : (fat : Bool) → union_pieces fat ≡ piece 0 4 core.Blank ∷ words_behind fat
tag_first true = refl
tag_first false = refl

-- a cell's pieces behind the first one
abbrev pub pieces_behind : List Layout → Shape → List Piece
pieces_behind unions (FatShape to) = piece 4 4 (core.Word 0) ∷ piece 8 4 (core.Word 0) ∷ []
pieces_behind unions (UnionShape tag) = words_behind (has_fat (parts_of unions tag))
pieces_behind unions s = []

pub value_pieces : (unions : List Layout) (s : Shape) → IsCellShape unions s
    → cell_pieces unions s ≡ piece 0 (width_of s) (first_part s) ∷ pieces_behind unions s
value_pieces unions IntShape h = refl
value_pieces unions UnsignedShape h = refl
value_pieces unions CharShape h = refl
value_pieces unions VoidShape h = absurd h
value_pieces unions (ThinShape may_be_null owner to) h = refl
value_pieces unions (FatShape to) h = refl
value_pieces unions HandleShape h = refl
value_pieces unions KeyShape h = refl
value_pieces unions (StructShape tag) h = absurd h
value_pieces unions (UnionShape tag) h = tag_first (has_fat (parts_of unions tag))
value_pieces unions (ArrayShape count of) h = absurd h

-- a value's cell has the value's pieces
pub cells_pieces : (unions : List Layout) (s : Shape) → IsValueShape s → cell_pieces unions s ≡ pieces_of s
cells_pieces unions IntShape h = refl
cells_pieces unions UnsignedShape h = refl
cells_pieces unions CharShape h = refl
cells_pieces unions VoidShape h = absurd h
cells_pieces unions (ThinShape may_be_null owner to) h = refl
cells_pieces unions (FatShape to) h = refl
cells_pieces unions HandleShape h = refl
cells_pieces unions KeyShape h = refl
cells_pieces unions (StructShape tag) h = absurd h
cells_pieces unions (UnionShape tag) h = absurd h
cells_pieces unions (ArrayShape count of) h = absurd h

padded_count : (unions : List Layout) (extent : Shape → Extent) (bytes : ℕ) (ps : List Placed) → length (padded unions extent bytes ps) ≡ length ps
padded_count unions extent bytes [] = refl
padded_count unions extent bytes (p ∷ ps) = ap suc (padded_count unions extent bytes ps)

-- Core has as many cells as the source
pub layout_count : (w : World) (s : Shape) → HasCells w.unions w.structs s → length (layout_of w s).cells ≡ length (cells_of w s)
layout_count w s has =
    padded_count w.unions (extent_of w) (extent_of w s).size (placed_of w s) ∙ sym (shapes_count (placed_of w s)) ∙ ap length has.shapes

-- the part at the spot and the byte where an object begins
pub record FirstPart (c : core.Memory) (t : core.Spot) (byte : ℕ) : Type 0 where
  pub width : ℕ
  pub content : Content
  pub is : c.parts t 0 ≡ Some (record { offset = byte; width = width; content = content })

pub first_part_of : (w : World) (c : core.Memory) (shape : Shape) (t : core.Spot) (byte : ℕ) → HasCells w.unions w.structs shape
    → AreMade c t byte (layout_of w shape).cells → FirstPart c t byte
first_part_of w c shape t byte has there = record {
  width = width_of has.first.shape;
  content = one.content;
  is = one.is ∙ ap (λ o. Some (record { offset = o; width = width_of has.first.shape; content = one.content })) (first_byte has.first.offset has.begins);
}
  where
    cells : AreCellShapes w.unions (has.first.shape ∷ shapes_in has.others)
    cells = subst (AreCellShapes w.unions) (sym has.shapes ∙ ap shapes_in has.is) has.cells

    cells_from : List Placed → List (List core.PartShape)
    cells_from ps = padded w.unions (extent_of w) (extent_of w shape).size ps

    rest : ℕ
    rest = next_at (extent_of w shape).size has.others - (has.first.offset + (extent_of w has.first.shape).size)

    pad : List core.PartShape
    pad = padding (has.first.offset + (extent_of w has.first.shape).size) rest

    made : AreMade c t byte (cells_from (has.first ∷ has.others))
    made = subst (λ z. AreMade c t byte (cells_from z)) has.is there

    shaped : AreShaped c t byte 0 (map (part_shape_of has.first)
        (piece 0 (width_of has.first.shape) (first_part has.first.shape) ∷ pieces_behind w.unions has.first.shape) ++ pad)
    shaped = subst (λ z. AreShaped c t byte 0 (map (part_shape_of has.first) z ++ pad)) (value_pieces w.unions has.first.shape cells.0) made.0

    one : PartIs c t 0 (byte + (has.first.offset + 0)) (width_of has.first.shape)
    one = shaped.0

    first_byte : (o : ℕ) → o ≡ 0 → byte + (o + 0) ≡ byte
    first_byte o e = omega (arith, e)

-- so a pointer goes there, however far it is
pub first_reached : (c : core.Memory) (t : core.Spot) (byte : ℕ) → FirstPart c t byte → reaches c t byte ≡ true
first_reached c t byte first = or_right (nat_lt byte too_far) (lies_at (c.parts t 0) byte) (ap (λ z. lies_at z byte) first.is ∙ eq-eqb byte byte refl)

-- ---- the source's cells

pub beyond_on : (s : Spot) (a b c : ℕ) → a + b ≡ c → source.beyond (source.beyond s a) b ≡ source.beyond s c
beyond_on s a b c e = λ i. record s { cell = same i }
  where
    same : s.cell + a + b ≡ s.cell + c
    same = omega (arith, e)

pub beyond_zero : (s : Spot) → s ≡ source.beyond s 0
beyond_zero s = λ i. record s { cell = same i }
  where
    same : s.cell ≡ s.cell + 0
    same = omega arith

cells_first : (m : source.Memory) (s : Spot) (xs ys : List Shape) → AreCells m s (xs ++ ys) → AreCells m s xs
cells_first m s [] ys h = tt
cells_first m s (x ∷ xs) ys h = (h.0, cells_first m (source.beyond s 1) xs ys h.1)

cells_after : (m : source.Memory) (s : Spot) (xs ys : List Shape) → AreCells m s (xs ++ ys) → AreCells m (source.beyond s (length xs)) ys
cells_after m s [] ys h = subst (λ z. AreCells m z ys) (beyond_zero s) h
cells_after m s (x ∷ xs) ys h =
    subst (λ z. AreCells m z ys) (beyond_on s 1 (length xs) (suc (length xs)) (omega arith)) (cells_after m (source.beyond s 1) xs ys h.1)

member_cells : (m : source.Memory) (cells : Shape → List Shape) (none : cells VoidShape ≡ []) (ps : List Part) (f : List ℕ) (s : Spot)
    → AreCells m s (all_cells cells ps) → AreCells m (source.beyond s (cells_before cells ps f)) (cells (part_shape ps f))
member_cells m cells none [] f s h = subst (λ z. AreCells m (source.beyond s 0) z) (sym none) tt
member_cells m cells none (p ∷ ps) f s h = by (bytes_eq p.name f) refl (member_cells m cells none ps f (source.beyond s (length (cells p.shape)))
    (cells_after m s (cells p.shape) (all_cells cells ps) h))
  where
    by : (b : Bool) → bytes_eq p.name f ≡ b → AreCells m (source.beyond (source.beyond s (length (cells p.shape))) (cells_before cells ps f))
        (cells (part_shape ps f)) → AreCells m (source.beyond s (cells_before cells (p ∷ ps) f)) (cells (part_shape (p ∷ ps) f))
    by true e rest =
        rw e (subst (λ z. AreCells m z (cells p.shape)) (beyond_zero s) (cells_first m s (cells p.shape) (all_cells cells ps) h))
    by false e rest =
        rw e (subst (λ z. AreCells m z (cells (part_shape ps f))) (beyond_on s (length (cells p.shape)) (cells_before cells ps f) _ refl) rest)

-- ---- Core's parts

-- the cells after others
made_after : (unions : List Layout) (c : core.Memory) (t : core.Spot) (b bytes : ℕ) (extent : Shape → Extent) (ps qs : List Placed)
    → AreMade c t b (padded unions extent bytes (ps ++ qs))
    → AreMade c (core.beyond t (length ps)) b (padded unions extent bytes qs)
made_after unions c t b bytes extent [] qs h = subst (λ z. AreMade c z b (padded unions extent bytes qs)) (beyond_none t) h
made_after unions c t b bytes extent (p ∷ ps) qs h =
    subst (λ z. AreMade c z b (padded unions extent bytes qs)) (beyond_both t 1 (length ps) (suc (length ps)) (omega arith))
    (made_after unions c (core.beyond t 1) b bytes extent ps qs h.1)

pub have_cells : (unions structs : List Layout) (ps : List Part) → AreStructs unions structs → AreObjects unions structs (part_shapes ps)
    → AllHaveCells unions structs ps
have_cells unions structs [] h o = tt
have_cells unions structs (p ∷ ps) h o = (object_cells unions structs p.shape h o.0, have_cells unions structs ps h o.1)

-- what comes after so many bytes begins no earlier
pub next_after : (unions structs : List Layout) (bytes : ℕ) (so_far : Extent) (ps : List Part) → AllHaveCells unions structs ps
    → (laid_out (extent_in unions structs) so_far ps).size ≤ bytes
    → so_far.size ≤ next_at bytes (all_placed (placed_in unions structs) (extent_in unions structs) so_far.size ps)
next_after unions structs bytes so_far [] h room = let more = laid_above (extent_in unions structs) so_far [] in omega (arith, more, room)
next_after unions structs bytes so_far (p ∷ ps) h room =
    let e = extent_in unions structs p.shape in
    let a = rounded_up so_far.size e.align in
    let more = all_placed (placed_in unions structs) (extent_in unions structs) (a + e.size) ps in
    let above = rounded_above so_far.size e.align in
    subst (λ z. so_far.size ≤ next_at bytes (map (moved a) z ++ more)) (sym h.0.is) (omega (arith, above))

-- of members from one on, the first, and those after it
pub parts_made : (c : core.Memory) (unions structs : List Layout) (bytes : ℕ) (so_far : Extent) (p : Part) (ps : List Part) (t : core.Spot) (b : ℕ)
    → AllHaveCells unions structs (p ∷ ps) → (laid_out (extent_in unions structs) so_far (p ∷ ps)).size ≤ bytes
    → AreMade c t b (padded unions (extent_in unions structs) bytes (all_placed (placed_in unions structs) (extent_in unions structs) so_far.size (p ∷ ps)))
    → AreMade c t (b + rounded_up so_far.size (extent_in unions structs p.shape).align) (padded unions (extent_in unions structs)
    (extent_in unions structs p.shape).size (placed_in unions structs p.shape)) × AreMade c (core.beyond t (length (cells_in structs p.shape))) b
    (padded unions (extent_in unions structs) bytes (all_placed (placed_in unions structs) (extent_in unions structs)
    (rounded_up so_far.size (extent_in unions structs p.shape).align + (extent_in unions structs p.shape).size) ps))
parts_made c unions structs bytes so_far p ps t b h room made = (
  made_moved c t b a (padded unions extent e.size (placed_in unions structs p.shape)) _
      (padded_moved unions extent e.size bytes a (placed_in unions structs p.shape) others (next_after unions structs bytes next ps h.1 room)) made,
  subst (λ z. AreMade c (core.beyond t z) b (padded unions extent bytes others)) count
      (made_after unions c t b bytes extent (map (moved a) (placed_in unions structs p.shape)) others made),
)
  where
    extent : Shape → Extent
    extent = extent_in unions structs

    e : Extent
    e = extent_in unions structs p.shape

    a : ℕ
    a = rounded_up so_far.size e.align

    next : Extent
    next = record { size = a + e.size; align = max so_far.align e.align }

    others : List Placed
    others = all_placed (placed_in unions structs) (extent_in unions structs) (a + e.size) ps

    count : length (map (moved a) (placed_in unions structs p.shape)) ≡ length (cells_in structs p.shape)
    count = length-map (placed_in unions structs p.shape) (moved a) ∙ sym (shapes_count (placed_in unions structs p.shape)) ∙ ap length h.0.shapes

member_made : (c : core.Memory) (unions structs : List Layout) (bytes : ℕ) (so_far : Extent) (ps : List Part) (f : List ℕ) (t : core.Spot) (b : ℕ)
    → AllHaveCells unions structs ps → (laid_out (extent_in unions structs) so_far ps).size ≤ bytes
    → AreMade c t b (padded unions (extent_in unions structs) bytes (all_placed (placed_in unions structs) (extent_in unions structs) so_far.size ps))
    → AreMade c (core.beyond t (cells_before (cells_in structs) ps f)) (b + bytes_before (extent_in unions structs) so_far.size ps f)
    (padded unions (extent_in unions structs) (extent_in unions structs (part_shape ps f)).size (placed_in unions structs (part_shape ps f)))
member_made c unions structs bytes so_far [] f t b h room made = tt
member_made c unions structs bytes so_far (p ∷ ps) f t b h room made = by (bytes_eq p.name f) refl
    (member_made c unions structs bytes next ps f (core.beyond t (length (map (moved a) (placed_in unions structs p.shape)))) b h.1 room
    (made_after unions c t b bytes extent (map (moved a) (placed_in unions structs p.shape)) others made))
  where
    extent : Shape → Extent
    extent = extent_in unions structs

    e : Extent
    e = extent_in unions structs p.shape

    a : ℕ
    a = rounded_up so_far.size e.align

    next : Extent
    next = record { size = a + e.size; align = max so_far.align e.align }

    others : List Placed
    others = all_placed (placed_in unions structs) (extent_in unions structs) (a + e.size) ps

    goal : (cells before : ℕ) (of : Shape) → Type 0
    goal cells before of = AreMade c (core.beyond t cells) (b + before) (padded unions (extent_in unions structs) (extent_in unions structs of).size
        (placed_in unions structs of))

    here : goal 0 a p.shape
    here = subst (λ z. AreMade c z (b + a) (padded unions extent e.size (placed_in unions structs p.shape))) (beyond_none t)
        (made_moved c t b a (padded unions extent e.size (placed_in unions structs p.shape)) _
        (padded_moved unions extent e.size bytes a (placed_in unions structs p.shape) others (next_after unions structs bytes next ps h.1 room)) made)

    count : length (map (moved a) (placed_in unions structs p.shape)) ≡ length (cells_in structs p.shape)
    count = length-map (placed_in unions structs p.shape) (moved a) ∙ sym (shapes_count (placed_in unions structs p.shape)) ∙ ap length h.0.shapes

    by : (z : Bool) → bytes_eq p.name f ≡ z
        → AreMade c (core.beyond (core.beyond t (length (map (moved a) (placed_in unions structs p.shape)))) (cells_before (cells_in structs) ps f))
        (b + bytes_before (extent_in unions structs) (a + e.size) ps f)
        (padded unions (extent_in unions structs) (extent_in unions structs (part_shape ps f)).size (placed_in unions structs (part_shape ps f)))
        → goal (cells_before (cells_in structs) (p ∷ ps) f) (bytes_before (extent_in unions structs) so_far.size (p ∷ ps) f) (part_shape (p ∷ ps) f)
    by true g rest = rw g here
    by false g rest =
        rw g (subst (λ z. AreMade c z (b + bytes_before (extent_in unions structs) (a + e.size) ps f)
        (padded unions (extent_in unions structs) (extent_in unions structs (part_shape ps f)).size (placed_in unions structs (part_shape ps f))))
        (beyond_both t _ (cells_before (cells_in structs) ps f) (length (cells_in structs p.shape) + cells_before (cells_in structs) ps f)
        (ap (λ z. z + cells_before (cells_in structs) ps f) count)) rest)

-- ---- members

pub lies_here : (w : World) (shape : Shape) → AreStructs w.unions w.structs → IsObject w.unions w.structs shape → IsTakenObject w shape
lies_here w shape structs object = record { object = object; cells = object_cells w.unions w.structs shape structs object }

-- where a member lies
pub record IsMember (w : World) (m : source.Memory) (c : core.Memory) (shape : Shape) (s : Spot) (byte : ℕ) (f : List ℕ) : Type 0 where
  pub lies : IsTakenObject w (member_shape w shape f)
  pub leads : Leads w m c (member_shape w shape f) (source.beyond s (cells_before (cells_of w) (struct_parts w shape) f))
      (byte + bytes_before (extent_of w) 0 (struct_parts w shape) f)

pub member_is : (w : World) (m : source.Memory) (c : core.Memory) (shape : Shape) (s : Spot) (byte : ℕ) (f : List ℕ) → AreStructs w.unions w.structs
    → IsObject w.unions w.structs (member_shape w shape f) → IsTakenObject w shape → Leads w m c shape s byte → IsMember w m c shape s byte f
member_is w m c (StructShape tag) s byte f structs object lies leads = record {
  lies = record { object = object; cells = object_cells w.unions w.structs (part_shape parts f) structs object };
  leads = (
    member_cells m (cells_of w) refl parts f s (subst (λ z. AreCells m s z) made.cells leads.0),
    member_made c w.unions w.structs (extent_of w (StructShape tag)).size (no_extent tag) parts f (at s) byte
        (have_cells w.unions w.structs parts structs made.members)
        (subst (λ z. z.size ≤ (extent_of w (StructShape tag)).size) made.extent (omega arith))
        (subst (λ z. AreMade c (at s) byte (padded w.unions (extent_of w) (extent_of w (StructShape tag)).size z)) made.placed leads.1),
  );
}
  where
    parts : List Part
    parts = parts_of w.structs tag

    made : IsMade w.unions w.structs tag
    made = struct_made w.unions w.structs tag structs
member_is w m c IntShape s byte f structs object lies leads = absurd object
member_is w m c UnsignedShape s byte f structs object lies leads = absurd object
member_is w m c CharShape s byte f structs object lies leads = absurd object
member_is w m c VoidShape s byte f structs object lies leads = absurd object
member_is w m c (ThinShape may_be_null owner to) s byte f structs object lies leads = absurd object
member_is w m c (FatShape to) s byte f structs object lies leads = absurd object
member_is w m c HandleShape s byte f structs object lies leads = absurd object
member_is w m c KeyShape s byte f structs object lies leads = absurd object
member_is w m c (UnionShape tag) s byte f structs object lies leads = absurd object
member_is w m c (ArrayShape count of) s byte f structs object lies leads = absurd object
