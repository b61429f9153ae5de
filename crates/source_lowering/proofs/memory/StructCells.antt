-- The cells of objects: as many, placed and not, each a value or a union; the first begins the object.
use Rattle.std.proofs.Common.{◌≡◌, ℕ, suc, ◌+◌, List, [], ◌∷◌, ◌++◌, map, length, Bool, true, false, refl, sym, ap, ◌∙◌, subst, arith}
use Rattle.std.specs.Prelude.{bytes_eq, if◌then◌else◌}
use Rattle.std.proofs.lemmas.Bool.{false≢true}
use Rattle.source_meaning.specs.Shapes.{
  Shape,
  IntShape,
  UnsignedShape,
  CharShape,
  VoidShape,
  ThinShape,
  FatShape,
  HandleShape,
  KeyShape,
  StructShape,
  UnionShape,
  ArrayShape,
  Part,
  Layout,
  part_shapes,
  has_tag,
}
use Rattle.source_meaning.specs.Sizes.{rounded_up, all_cells, struct_cells}
use Rattle.source_meaning.specs.Placing.{Placed, moved, all_placed, struct_placed}
use Rattle.source_lowering.specs.Lowerable.{IsValueShape, IsObject, AreObjects, HasMember, IsStruct, AreStructs}
use Rattle.source_lowering.specs.ObjectCells.{cells_in, placed_in, extent_in}
pub use Rattle.source_lowering.specs.ObjectCells.{shapes_in, IsCellShape, AreCellShapes, HasCells}
use Rattle.source_lowering.proofs.Structs.{rounded_zero}

-- ---- cells

-- a value is a cell
pub value_cell : (unions : List Layout) (s : Shape) → IsValueShape s → IsCellShape unions s
value_cell unions IntShape h = tt
value_cell unions UnsignedShape h = tt
value_cell unions CharShape h = tt
value_cell unions VoidShape h = h
value_cell unions (ThinShape may_be_null owner to) h = h
value_cell unions (FatShape to) h = h
value_cell unions HandleShape h = tt
value_cell unions KeyShape h = tt
value_cell unions (StructShape tag) h = h
value_cell unions (UnionShape tag) h = absurd h
value_cell unions (ArrayShape count of) h = h

shapes_both : (ps qs : List Placed) → shapes_in (ps ++ qs) ≡ shapes_in ps ++ shapes_in qs
shapes_both [] qs = refl
shapes_both (p ∷ ps) qs = ap (λ z. p.shape ∷ z) (shapes_both ps qs)

shapes_moved : (by : ℕ) (ps : List Placed) → shapes_in (map (moved by) ps) ≡ shapes_in ps
shapes_moved by [] = refl
shapes_moved by (p ∷ ps) = ap (λ z. p.shape ∷ z) (shapes_moved by ps)

pub shapes_count : (ps : List Placed) → length (shapes_in ps) ≡ length ps
shapes_count [] = refl
shapes_count (p ∷ ps) = ap suc (shapes_count ps)

values_both : (unions : List Layout) (ss ts : List Shape) → AreCellShapes unions ss → AreCellShapes unions ts → AreCellShapes unions (ss ++ ts)
values_both unions [] ts h g = g
values_both unions (s ∷ ss) ts h g = (h.0, values_both unions ss ts h.1 g)

-- a struct's
record HaveCells (unions structs : List Layout) (so_far : ℕ) (ps : List Part) : Type 0 where
  shapes : shapes_in (all_placed (placed_in unions structs) (extent_in unions structs) so_far ps) ≡ all_cells (cells_in structs) ps
  values : AreCellShapes unions (all_cells (cells_in structs) ps)

value_cells : (unions structs : List Layout) (s : Shape) → AreCellShapes unions (s ∷ []) → placed_in unions structs s ≡ (record { offset = 0; shape = s }) ∷ []
    → cells_in structs s ≡ s ∷ [] → HasCells unions structs s
value_cells unions structs s word placed cells = record {
  shapes = ap shapes_in placed ∙ sym cells;
  cells = subst (AreCellShapes unions) (sym cells) word;
  first = record { offset = 0; shape = s };
  others = [];
  is = placed;
  begins = refl;
}

-- where each member has cells
abbrev pub AllHaveCells : List Layout → List Layout → List Part → Type 0
AllHaveCells unions structs [] = Unit {0}
AllHaveCells unions structs (p ∷ ps) = HasCells unions structs p.shape × AllHaveCells unions structs ps

parts_cells : (unions structs : List Layout) (so_far : ℕ) (ps : List Part) → AllHaveCells unions structs ps → HaveCells unions structs so_far ps
parts_cells unions structs so_far [] h = record { shapes = refl; values = tt }
parts_cells unions structs so_far (p ∷ ps) h =
    let at = rounded_up so_far (extent_in unions structs p.shape).align in
    let one = h.0 in
    let more = parts_cells unions structs (at + (extent_in unions structs p.shape).size) ps h.1 in
    let others : List Placed = all_placed (placed_in unions structs) (extent_in unions structs) (at + (extent_in unions structs p.shape).size) ps in
    record {
      shapes = shapes_both (map (moved at) (placed_in unions structs p.shape)) others ∙
          ap (λ z. z ++ shapes_in others) (shapes_moved at (placed_in unions structs p.shape) ∙ one.shapes) ∙
          ap (λ z. cells_in structs p.shape ++ z) more.shapes;
      values = values_both unions (cells_in structs p.shape) (all_cells (cells_in structs) ps) one.cells more.values;
    }

-- the first member begins the struct
record Begins (ps : List Placed) : Type 0 where
  first : Placed
  others : List Placed
  is : ps ≡ first ∷ others
  begins : first.offset ≡ 0

begun : (unions structs : List Layout) (ps : List Part) → HasMember ps → AllHaveCells unions structs ps
    → Begins (all_placed (placed_in unions structs) (extent_in unions structs) 0 ps)
begun unions structs [] h cells = absurd h
begun unions structs (p ∷ ps) h cells =
    let one = cells.0 in
    let at = rounded_up 0 (extent_in unions structs p.shape).align in
    let none : at ≡ 0 = rounded_zero (extent_in unions structs p.shape).align in
    let more : List Placed = all_placed (placed_in unions structs) (extent_in unions structs) (at + (extent_in unions structs p.shape).size) ps in
    let b = one.begins in
    record {
      first = moved at one.first;
      others = map (moved at) one.others ++ more;
      is = ap (λ z. map (moved at) z ++ more) one.is;
      begins = omega (arith, none, b);
    }

-- an object, where each struct has cells
object_by : (unions structs : List Layout) (s : Shape) → ((tag : List ℕ) → has_tag structs tag ≡ true → HasCells unions structs (StructShape tag))
    → IsObject unions structs s → HasCells unions structs s
object_by unions structs (StructShape tag) all o = all tag o
object_by unions structs IntShape all o = value_cells unions structs IntShape (tt, tt) refl refl
object_by unions structs UnsignedShape all o = value_cells unions structs UnsignedShape (tt, tt) refl refl
object_by unions structs CharShape all o = value_cells unions structs CharShape (tt, tt) refl refl
object_by unions structs VoidShape all o = absurd o
object_by unions structs (ThinShape may_be_null owner to) all o = value_cells unions structs (ThinShape may_be_null owner to) (o, tt) refl refl
object_by unions structs (FatShape to) all o = value_cells unions structs (FatShape to) (o, tt) refl refl
object_by unions structs HandleShape all o = value_cells unions structs HandleShape (tt, tt) refl refl
object_by unions structs KeyShape all o = value_cells unions structs KeyShape (tt, tt) refl refl
object_by unions structs (UnionShape tag) all o = value_cells unions structs (UnionShape tag) (o, tt) refl refl
object_by unions structs (ArrayShape count of) all o = absurd o

members_by : (unions structs : List Layout) (ps : List Part) → ((tag : List ℕ) → has_tag structs tag ≡ true → HasCells unions structs (StructShape tag))
    → AreObjects unions structs (part_shapes ps) → AllHaveCells unions structs ps
members_by unions structs [] all h = tt
members_by unions structs (p ∷ ps) all h = (object_by unions structs p.shape all h.0, members_by unions structs ps all h.1)

-- a struct of these members
parts_struct : (unions earlier : List Layout) (l : Layout) (tag : List ℕ) → bytes_eq l.tag tag ≡ true → HasMember l.parts
    → AllHaveCells unions earlier l.parts → HasCells unions (l ∷ earlier) (StructShape tag)
parts_struct unions earlier l tag e some members =
    let all = parts_cells unions earlier 0 l.parts members in
    let first = begun unions earlier l.parts some members in
    let cells : struct_cells (l ∷ earlier) tag ≡ all_cells (cells_in earlier) l.parts =
    ap (λ b. if b then all_cells (cells_in earlier) l.parts else struct_cells earlier tag) e in
    let placed : struct_placed unions (l ∷ earlier) tag ≡ all_placed (placed_in unions earlier) (extent_in unions earlier) 0 l.parts =
    ap (λ b. if b then all_placed (placed_in unions earlier) (extent_in unions earlier) 0 l.parts else struct_placed unions earlier tag) e in
    record {
      shapes = ap shapes_in placed ∙ all.shapes ∙ sym cells;
      cells = subst (AreCellShapes unions) (sym cells) all.values;
      first = first.first;
      others = first.others;
      is = placed ∙ first.is;
      begins = first.begins;
    }

struct_still : (unions earlier : List Layout) (l : Layout) (tag : List ℕ) → bytes_eq l.tag tag ≡ false → HasCells unions earlier (StructShape tag)
    → HasCells unions (l ∷ earlier) (StructShape tag)
struct_still unions earlier l tag e one =
    let cells : struct_cells (l ∷ earlier) tag ≡ struct_cells earlier tag =
    ap (λ b. if b then all_cells (cells_in earlier) l.parts else struct_cells earlier tag) e in
    let placed : struct_placed unions (l ∷ earlier) tag ≡ struct_placed unions earlier tag =
    ap (λ b. if b then all_placed (placed_in unions earlier) (extent_in unions earlier) 0 l.parts else struct_placed unions earlier tag) e in
    record {
      shapes = ap shapes_in placed ∙ one.shapes ∙ sym cells;
      cells = subst (AreCellShapes unions) (sym cells) one.cells;
      first = one.first;
      others = one.others;
      is = placed ∙ one.is;
      begins = one.begins;
    }

struct_has : (unions structs : List Layout) → AreStructs unions structs → (tag : List ℕ) → has_tag structs tag ≡ true
    → HasCells unions structs (StructShape tag)
struct_has unions [] h tag o = absurd (false≢true o)
struct_has unions (l ∷ earlier) h tag o = by (bytes_eq l.tag tag) refl (λ t e. struct_has unions earlier h.1 t e)
  where
    one : IsStruct unions earlier l
    one = h.0

    by : (b : Bool) → bytes_eq l.tag tag ≡ b → ((t : List ℕ) → has_tag earlier t ≡ true → HasCells unions earlier (StructShape t))
        → HasCells unions (l ∷ earlier) (StructShape tag)
    by true e all = parts_struct unions earlier l tag e one.some (members_by unions earlier l.parts all one.members)
    by false e all = struct_still unions earlier l tag e (all tag (sym (ap (λ b. if b then true else has_tag earlier tag) e) ∙ o))

pub object_cells : (unions structs : List Layout) (s : Shape) → AreStructs unions structs → IsObject unions structs s → HasCells unions structs s
object_cells unions structs s h o = object_by unions structs s (λ tag e. struct_has unions structs h tag e) o
