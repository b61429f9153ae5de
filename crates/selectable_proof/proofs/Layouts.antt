-- How lowering lays objects out can be selected: parts tile the object's bytes, words lie at multiples of 4, and bytes of 0 show what parts begin with.
use Rattle.std.proofs.Common.{◌≡◌, ⊎_elim, ℕ, zero, suc, ◌+◌, ◌-◌, ◌%◌, ◌⊎◌, inl, inr, Bool, true, false, List, [], ◌∷◌, map, refl, sym, ap, ◌∙◌, subst, arith}
use Rattle.source_meaning.specs.Shapes as source
use Rattle.source_meaning.specs.Shapes.{Shape, IntShape, UnsignedShape, CharShape, ThinShape, FatShape, HandleShape, KeyShape, UnionShape, ArrayShape, parts_of}
use Rattle.source_meaning.specs.Placing.{Placed}
use Rattle.source_meaning.specs.Steps.{World}
use Rattle.core_meaning.specs.Memory.{PartShape, Layout}
use Rattle.core_meaning.specs.Layouts.{IsLayout, IsFull, IsNothing, IsZero, AreCellsJoined, cells_end}
use Rattle.source_lowering.specs.Layouts.{has_fat, union_pieces, cell_pieces, part_shape_of, cell_parts, padding, next_at, padded, layout_of, local_of}
use Rattle.source_lowering.specs.Layouts.{placed_of, extent_of}
use Rattle.source_lowering.specs.Lowered.{width_of}
use Rattle.source_lowering.specs.Lowerable.{IsObject, IsVariable, AreUnions}
use Rattle.source_lowering.proofs.UnionSizes.{union_bytes, union_size}
use Rattle.source_lowering.proofs.expressions.Names.{IsPlainWorld}
use Rattle.source_lowering.proofs.memory.StructCells.{shapes_in, IsCellShape, AreCellShapes, HasCells, object_cells}
use Rattle.source_lowering.proofs.memory.Ordered.{bytes_taken, AreOrdered, AreEven, IsOrdered, object_ordered}
use Rattle.selectable_proof.proofs.Tiles.{
  Tile,
  AllTile,
  tile_both,
  has_within,
  cells_apart,
  byte_there,
  Each,
  EachOf,
  each_both,
  each_has,
  IsByteOrWord,
  all_joined,
  all_end,
}

-- ---- the parts of a cell

cell_size : (w : World) (s : Shape) → AreUnions w.unions → IsCellShape w.unions s → (extent_of w s).size ≡ bytes_taken w.unions s
cell_size w (FatShape to) us h = refl
cell_size w (ThinShape may_be_null owner to) us h = refl
cell_size w IntShape us h = refl
cell_size w UnsignedShape us h = refl
cell_size w CharShape us h = refl
cell_size w HandleShape us h = refl
cell_size w KeyShape us h = refl
cell_size w (UnionShape tag) us h = union_size w.unions tag us h
cell_size w _ us h = absurd h

-- a union's, by whether one of its members is a fat pointer
union_tiles : (p : Placed) (fat : Bool) → Tile p.offset (p.offset + union_bytes fat) (map (part_shape_of p) (union_pieces fat))
union_tiles p false = (omega arith, (omega arith, omega arith))
union_tiles p true = (omega arith, (omega arith, (omega arith, (omega arith, omega arith))))

pieces_tile : (unions : List source.Layout) (p : Placed) (s : Shape) → IsCellShape unions s
    → Tile p.offset (p.offset + bytes_taken unions s) (map (part_shape_of p) (cell_pieces unions s))
pieces_tile unions p (FatShape to) h = (omega arith, (omega arith, (omega arith, omega arith)))
pieces_tile unions p (ThinShape may_be_null owner to) h = (omega arith, omega arith)
pieces_tile unions p IntShape h = (omega arith, omega arith)
pieces_tile unions p UnsignedShape h = (omega arith, omega arith)
pieces_tile unions p CharShape h = (omega arith, omega arith)
pieces_tile unions p HandleShape h = (omega arith, omega arith)
pieces_tile unions p KeyShape h = (omega arith, omega arith)
pieces_tile unions p (UnionShape tag) h = union_tiles p (has_fat (parts_of unions tag))
pieces_tile unions p _ h = absurd h

union_wide : (p : Placed) (fat : Bool) → Each IsByteOrWord (map (part_shape_of p) (union_pieces fat))
union_wide p false = (inr refl, (inr refl, tt))
union_wide p true = (inr refl, (inr refl, (inr refl, (inr refl, tt))))

pieces_wide : (unions : List source.Layout) (p : Placed) (s : Shape) → IsCellShape unions s → Each IsByteOrWord (map (part_shape_of p) (cell_pieces unions s))
pieces_wide unions p (FatShape to) h = (inr refl, (inr refl, (inr refl, tt)))
pieces_wide unions p (ThinShape may_be_null owner to) h = (inr refl, tt)
pieces_wide unions p IntShape h = (inr refl, tt)
pieces_wide unions p UnsignedShape h = (inr refl, tt)
pieces_wide unions p CharShape h = (inl refl, tt)
pieces_wide unions p HandleShape h = (inr refl, tt)
pieces_wide unions p KeyShape h = (inr refl, tt)
pieces_wide unions p (UnionShape tag) h = union_wide p (has_fat (parts_of unions tag))
pieces_wide unions p _ h = absurd h

abbrev BeginsWithNothing : PartShape → Type 0
BeginsWithNothing x = IsNothing x.first

union_nothing : (p : Placed) (fat : Bool) → Each BeginsWithNothing (map (part_shape_of p) (union_pieces fat))
union_nothing p false = (tt, (tt, tt))
union_nothing p true = (tt, (tt, (tt, (tt, tt))))

pieces_nothing : (unions : List source.Layout) (p : Placed) (s : Shape) → IsCellShape unions s
    → Each BeginsWithNothing (map (part_shape_of p) (cell_pieces unions s))
pieces_nothing unions p (FatShape to) h = (tt, (refl, (refl, tt)))
pieces_nothing unions p (ThinShape may_be_null owner to) h = (tt, tt)
pieces_nothing unions p IntShape h = (refl, tt)
pieces_nothing unions p UnsignedShape h = (refl, tt)
pieces_nothing unions p CharShape h = (refl, tt)
pieces_nothing unions p HandleShape h = (tt, tt)
pieces_nothing unions p KeyShape h = (tt, tt)
pieces_nothing unions p (UnionShape tag) h = union_nothing p (has_fat (parts_of unions tag))
pieces_nothing unions p _ h = absurd h

abbrev IsEvenIn : ℕ → PartShape → Type 0
IsEvenIn bytes x = (x.width ≡ 1) ⊎ ((x.width ≡ 4) × (x.offset % 4 ≡ 0) × (bytes % 4 ≡ 0))

-- a char lies anywhere, and all else at a multiple of 4, in an object that is aligned to 4
abbrev LiesEven : (align : ℕ) → Shape → (offset : ℕ) → Type 0
LiesEven align s offset = (s ≡ CharShape) ⊎ ((offset % 4 ≡ 0) × (align ≡ 4))

at_four : (bytes align offset : ℕ) (s : Shape) → width_of s ≡ 4 → (align ≡ 4 → bytes % 4 ≡ 0) → LiesEven align s offset
    → (offset % 4 ≡ 0) × (bytes % 4 ≡ 0)
at_four bytes align offset s width even h =
    ⊎_elim (λ (f : s ≡ CharShape). let one : width_of s ≡ 1 = ap width_of f in absurd (omega (arith, width, one)))
    (λ (f : (offset % 4 ≡ 0) × (align ≡ 4)). (f.0, even f.1)) h

union_even : (bytes : ℕ) (p : Placed) (fat : Bool) → (p.offset % 4 ≡ 0) × (bytes % 4 ≡ 0) → Each (IsEvenIn bytes) (map (part_shape_of p) (union_pieces fat))
union_even bytes p false (at, whole) = (inr (refl, omega (arith, at), whole), (inr (refl, omega (arith, at), whole), tt))
union_even bytes p true (at, whole) = (
  inr (refl, omega (arith, at), whole),
  (inr (refl, omega (arith, at), whole), (inr (refl, omega (arith, at), whole), (inr (refl, omega (arith, at), whole), tt))),
)

pieces_even : (unions : List source.Layout) (bytes align : ℕ) (p : Placed) (s : Shape) → IsCellShape unions s → (align ≡ 4 → bytes % 4 ≡ 0)
    → LiesEven align s p.offset → Each (IsEvenIn bytes) (map (part_shape_of p) (cell_pieces unions s))
pieces_even unions bytes align p s h even lies = by s h lies
  where
    by : (of : Shape) → IsCellShape unions of → LiesEven align of p.offset → Each (IsEvenIn bytes) (map (part_shape_of p) (cell_pieces unions of))
    by (FatShape to) h lies =
        let (at, whole) = at_four bytes align p.offset (FatShape to) refl even lies in
        (inr (refl, omega (arith, at), whole), (inr (refl, omega (arith, at), whole), (inr (refl, omega (arith, at), whole), tt)))
    by CharShape h lies = (inl refl, tt)
    by (ThinShape may_be_null owner to) h lies =
        let (at, whole) = at_four bytes align p.offset (ThinShape may_be_null owner to) refl even lies in (inr (refl, omega (arith, at), whole), tt)
    by IntShape h lies = let (at, whole) = at_four bytes align p.offset IntShape refl even lies in (inr (refl, omega (arith, at), whole), tt)
    by UnsignedShape h lies = let (at, whole) = at_four bytes align p.offset UnsignedShape refl even lies in (inr (refl, omega (arith, at), whole), tt)
    by HandleShape h lies = let (at, whole) = at_four bytes align p.offset HandleShape refl even lies in (inr (refl, omega (arith, at), whole), tt)
    by KeyShape h lies = let (at, whole) = at_four bytes align p.offset KeyShape refl even lies in (inr (refl, omega (arith, at), whole), tt)
    by (UnionShape tag) h lies = union_even bytes p (has_fat (parts_of unions tag)) (at_four bytes align p.offset (UnionShape tag) refl even lies)
    by _ h lies = absurd h

-- ---- padded cells

padding_tiles : (at to n : ℕ) → at + n ≡ to → Tile at to (padding at n)
padding_tiles at to zero e = omega (arith, e)
padding_tiles at to (suc n) e = (refl, padding_tiles (at + 1) to n (omega (arith, e)))

padding_each : (P : PartShape → Type 0) (at n : ℕ) → ((o : ℕ) → Each P (padding o 1)) → Each P (padding at n)
padding_each P at zero h = tt
padding_each P at (suc n) h = ((h at).0, padding_each P (at + 1) n h)

cells_tile : (w : World) (end : ℕ) (ps : List Placed) → AreUnions w.unions → AreOrdered w.unions end ps → AreCellShapes w.unions (shapes_in ps)
    → AllTile (next_at end ps) end (padded w.unions (extent_of w) end ps)
cells_tile w end [] us h taken = refl
cells_tile w end (p ∷ ps) us h taken =
    let stop : ℕ = p.offset + (extent_of w p.shape).size in
    let size = cell_size w p.shape us taken.0 in
    let room = h.0 in
    let same : p.offset + bytes_taken w.unions p.shape ≡ stop = omega (arith, size) in (
      next_at end ps,
      (
        tile_both p.offset stop (next_at end ps) (cell_parts w.unions p) (padding stop (next_at end ps - stop))
            (subst (λ z. Tile p.offset z (cell_parts w.unions p)) same (pieces_tile w.unions p p.shape taken.0))
            (padding_tiles stop (next_at end ps) (next_at end ps - stop) (omega (arith, room, same))),
        cells_tile w end ps us h.1 taken.1,
      ),
    )

abbrev AllOf : (Placed → Type 0) → List Placed → Type 0
AllOf Q [] = Unit {0}
AllOf Q (p ∷ ps) = Q p × AllOf Q ps

cells_each : (w : World) (end : ℕ) (ps : List Placed) (P : PartShape → Type 0) (Q : Placed → Type 0) → ((o : ℕ) → Each P (padding o 1))
    → ((p : Placed) → IsCellShape w.unions p.shape → Q p → Each P (cell_parts w.unions p)) → AreCellShapes w.unions (shapes_in ps) → AllOf Q ps
    → EachOf P (padded w.unions (extent_of w) end ps)
cells_each w end [] P Q pads cell taken all = tt
cells_each w end (p ∷ ps) P Q pads cell taken all =
    let stop : ℕ = p.offset + (extent_of w p.shape).size in (
      each_both P (cell_parts w.unions p) (padding stop (next_at end ps - stop)) (cell p taken.0 all.0) (padding_each P stop (next_at end ps - stop) pads),
      cells_each w end ps P Q pads cell taken.1 all.1,
    )

all_even : (align : ℕ) (ps : List Placed) → AreEven align ps → AllOf (λ p. LiesEven align p.shape p.offset) ps
all_even align [] h = tt
all_even align (p ∷ ps) h = (h.0, all_even align ps h.1)

all_any : (ps : List Placed) → AllOf (λ p. Unit {0}) ps
all_any [] = tt
all_any (p ∷ ps) = (tt, all_any ps)

-- ---- layouts

-- what is known of the layout of an object
pub record IsObjectLayout (l : Layout) : Type 0 where
  pub lies : IsLayout l
  pub full : IsFull l
  pub nothing : IsZero l
  pub joined : AreCellsJoined 0 l.cells
  pub whole : cells_end 0 l.cells ≡ l.bytes

pub object_layout : (w : World) (s : Shape) → IsPlainWorld w → IsObject w.unions w.structs s → IsObjectLayout (layout_of w s)
object_layout w s plain object = record {
  lies = record {
    within = λ cell part x has. (has_within 0 size cells cell part x tiles has.is).high;
    even = λ cell part x has. each_has (IsEvenIn size) cells cell part x evens has.is;
    apart = λ cell part cell' part' x y ne has has'. cells_apart 0 size cells cell part cell' part' x y tiles ne has.is has'.is;
  };
  full = record {
    full = λ at less.
        let b = byte_there 0 size at cells tiles (omega arith) less in
        record { cell = b.cell; part = b.part; shape = b.shape; has = record { is = b.has }; low = b.low; high = b.high };
  };
  nothing = record { nothing = λ cell part x has. each_has BeginsWithNothing cells cell part x zeros has.is };
  joined = all_joined 0 size cells tiles widths;
  whole = all_end 0 size cells tiles;
}
  where
    size : ℕ
    size = (extent_of w s).size

    ps : List Placed
    ps = placed_of w s

    cells : List (List PartShape)
    cells = padded w.unions (extent_of w) size ps

    has_cells : HasCells w.unions w.structs s
    has_cells = object_cells w.unions w.structs s plain.structs object

    ordered : IsOrdered w.unions w.structs s
    ordered = object_ordered w.unions w.structs s plain.unions plain.structs object

    taken : AreCellShapes w.unions (shapes_in ps)
    taken = subst (λ z. AreCellShapes w.unions z) (sym has_cells.shapes) has_cells.cells

    begins : next_at size ps ≡ 0
    begins = ap (next_at size) has_cells.is ∙ has_cells.begins

    tiles : AllTile 0 size cells
    tiles = subst (λ z. AllTile z size cells) begins (cells_tile w size ps plain.unions ordered.ordered taken)

    evens : EachOf (IsEvenIn size) cells
    evens = cells_each w size ps (IsEvenIn size) (λ p. LiesEven (extent_of w s).align p.shape p.offset) (λ o. (inl refl, tt))
        (λ p cell q. pieces_even w.unions size (extent_of w s).align p p.shape cell ordered.aligned.even q) taken
        (all_even (extent_of w s).align ps ordered.even)

    widths : EachOf IsByteOrWord cells
    widths = cells_each w size ps IsByteOrWord (λ p. Unit {0}) (λ o. (inl refl, tt)) (λ p cell q. pieces_wide w.unions p p.shape cell) taken (all_any ps)

    zeros : EachOf BeginsWithNothing cells
    zeros = cells_each w size ps BeginsWithNothing (λ p. Unit {0}) (λ o. (tt, tt)) (λ p cell q. pieces_nothing w.unions p p.shape cell) taken (all_any ps)

-- a local and a global are laid out as an object, or as the elements of an array
pub variable_layout : (w : World) (s : Shape) → IsPlainWorld w → IsVariable w.unions w.structs s → IsObjectLayout (local_of w s).layout
variable_layout w (ArrayShape count of) plain h = object_layout w of plain h.1
variable_layout w s plain h = object_layout w s plain h
