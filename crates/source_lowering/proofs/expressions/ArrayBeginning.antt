-- A local array without an initializer: the source makes it, each element as its shape begins, and Core's code clears it.
use Rattle.std.proofs.Common.{◌≡◌, ℕ, zero, suc, ◌+◌, ◌*◌, ◌<◌, List, ◌∷◌, ◌++◌, length, map, true, Some, refl, sym, ap, ◌∙◌, subst, arith, eq-eqb}
use Rattle.std.specs.Prelude.{◌&&◌, slice_get}
use Rattle.std.proofs.Math.Nat.{suc-mul}
use Rattle.std.proofs.lemmas.List.{length-map}
use Rattle.source_meaning.specs.Shapes.{Shape, ArrayShape}
use Rattle.source_meaning.specs.Memory as source
use Rattle.source_meaning.specs.Memory.{Scalar, Spot, Object, Holds, first_cell, is_live}
use Rattle.source_meaning.specs.Steps as steps
use Rattle.source_meaning.specs.Steps.{World, Variable, Scope, Flow, Act}
use Rattle.source_meaning.specs.Conversions.{cells_of, size_of}
use Rattle.source_meaning.specs.Places.{with_binding}
use Rattle.source_meaning.specs.Regions.{declared}
use Rattle.source_meaning.specs.Statements.{first_array}
use Rattle.core_meaning.specs.Memory as core
use Rattle.core_meaning.specs.Memory.{Pointer, Layout, PartShape}
use Rattle.core_meaning.specs.Core.{Do, LocalAddress, Clear, Statements, MoreStatements}
use Rattle.core_meaning.specs.Steps as core_steps
use Rattle.core_meaning.specs.Steps.{Config, with_temp, with_memory}
use Rattle.core_meaning.specs.Operations.{does, are_elements, cleared}
use Rattle.core_meaning.specs.Meaning as meaning
use Rattle.core_meaning.proofs.Wholes.{beyond_both}
use Rattle.source_lowering.specs.Layouts.{layout_of, cell_pieces, part_shape_of}
use Rattle.source_lowering.specs.Lowerable.{IsObject, AreStructs}
use Rattle.source_lowering.specs.Simulation.{
  region_at,
  at,
  AreMade,
  AreCells,
  PartsHold,
  LeadsAll,
  LocalMade,
  ArePending,
  IsShown,
  SameMemory,
  Bound,
  Grown,
  Point,
  SameState,
  within,
  around,
  SameAt,
  Next,
}
use Rattle.source_lowering.proofs.memory.Keeping.{named_free, later_on, fits_later}
use Rattle.source_lowering.proofs.memory.StructCells.{HasCells, object_cells}
use Rattle.source_lowering.proofs.memory.CellParts.{firsts_of}
use Rattle.source_lowering.proofs.memory.Members.{layout_count}
use Rattle.source_lowering.proofs.expressions.ElementsMade.{spot_in, element_cell}
use Rattle.source_lowering.proofs.expressions.ArrayParts.{element_holds}
use Rattle.source_lowering.proofs.expressions.ArrayCells.{InElement, element_there, in_element, array_unlent}
use Rattle.source_lowering.proofs.memory.Clearing.{BeginsWith, placed_at, layout_first, made_at, laid_there, cleared_later, agree_cleared}
use Rattle.source_lowering.proofs.expressions.Making.{local_spot, cell_spot, spot_of, m_made, here_is, grown_later}
use Rattle.source_lowering.proofs.values.Values.{kept_temp}
use Rattle.source_lowering.proofs.statements.Declaring.{with_local, object_fits}
use Rattle.source_lowering.proofs.memory.Beginning.{declared_by, BeginsIn}
use Rattle.source_lowering.proofs.memory.FirstCells.{IsFirstCell, first_cell_is, first_shown, first_free}

-- ---- Core clears so many elements

-- they are all there
elements_there : (c : core.Memory) (t : core.Spot) (b i : ℕ) (l : Layout) (count : ℕ)
    → ((k : ℕ) → k < count → AreMade c (core.beyond t ((i + k) * length l.cells)) (b + (i + k) * l.bytes) l.cells)
    → are_elements c (core.beyond t (i * length l.cells)) (b + i * l.bytes) l count ≡ true
elements_there c t b i l zero h = refl
elements_there c t b i l (suc count) h =
    ap (λ z. z && are_elements c (core.beyond (core.beyond t (i * n)) n) (b + i * l.bytes + l.bytes) l count)
    (laid_there c (core.beyond t (i * n)) (b + i * l.bytes) l.cells
    (subst (λ z. AreMade c (core.beyond t (z * n)) (b + z * l.bytes) l.cells) none (h 0 (omega arith)))) ∙
    subst (λ z. are_elements c z (b + i * l.bytes + l.bytes) l count ≡ true) (sym (beyond_both t (i * n) n (suc i * n) (sym (suc-mul i n))))
    (subst (λ z. are_elements c (core.beyond t (suc i * n)) z l count ≡ true) further
    (elements_there c t b (suc i) l count (λ k less.
    subst (λ z. AreMade c (core.beyond t (z * n)) (b + z * l.bytes) l.cells) (one_on k) (h (suc k) (omega (arith, less))))))
  where
    n : ℕ
    n = length l.cells

    none : i + 0 ≡ i
    none = omega arith

    one_on : (k : ℕ) → i + suc k ≡ suc i + k
    one_on k = omega arith

    further : b + suc i * l.bytes ≡ b + i * l.bytes + l.bytes
    further = let f = suc-mul i l.bytes in omega (arith, f)

pub array_there : (w : World) (c : core.Memory) (r : core.Region) (index count : ℕ) (of : Shape) → LocalMade w c r index (ArrayShape count of)
    → are_elements c (spot_in r index 0) 0 (layout_of w of) count ≡ true
array_there w c r index count of made =
    subst (λ z. are_elements c z 0 l count ≡ true) none_cell
    (subst (λ z. are_elements c (core.beyond t (0 * n)) z l count ≡ true) none_byte
    (elements_there c t 0 0 l count (λ k less.
    subst (λ z. AreMade c z (0 + (0 + k) * l.bytes) l.cells) (spots k) (subst (λ z. AreMade c (spot_in r index (k * n)) z l.cells) (bytes k) (made k less)))))
  where
    l : Layout
    l = layout_of w of

    n : ℕ
    n = length l.cells

    t : core.Spot
    t = spot_in r index 0

    none_byte : 0 + 0 * l.bytes ≡ 0
    none_byte = omega arith

    none_cell : core.beyond t (0 * n) ≡ t
    none_cell = λ i. spot_in r index (same i)
      where
        same : 0 + 0 * n ≡ 0
        same = omega arith

    number : (k : ℕ) → k ≡ 0 + k
    number k = omega arith

    bytes : (k : ℕ) → k * l.bytes ≡ 0 + (0 + k) * l.bytes
    bytes k = ap (λ z. z * l.bytes) (number k) ∙ zero_on ((0 + k) * l.bytes)
      where
        zero_on : (x : ℕ) → x ≡ 0 + x
        zero_on x = omega arith

    spots : (k : ℕ) → spot_in r index (k * n) ≡ core.beyond t ((0 + k) * n)
    spots k = λ i. spot_in r index (same i)
      where
        same : k * n ≡ 0 + (0 + k) * n
        same = ap (λ z. z * n) (number k) ∙ zero_on ((0 + k) * n)
          where
            zero_on : (x : ℕ) → x ≡ 0 + x
            zero_on x = omega arith

array_cleared : (c : Config) (d index frame : ℕ) (outer : List ℕ) (l : Layout) (count : ℕ) (next : Config → core_steps.Step) → c.blocks ≡ frame ∷ outer
    → core.is_live (c.memory.standing (core.Frame frame)) ≡ true → are_elements c.memory (at (local_spot frame index)) 0 l count ≡ true
    → does (LocalAddress d 0 index) (does (Clear d l count) next) c
    ≡ next (with_memory (cleared l count (at (local_spot frame index)) c.memory) (with_temp d (Pointer (at (local_spot frame index)) 0) c))
array_cleared c d index frame outer l count next block live there = rw (block, eq-eqb d d refl, live, there) refl

-- ---- what each element begins with

-- its parts, where Core has made it
pub element_led : (w : World) (c : core.Memory) (r : source.Region) (index count k : ℕ) (of : Shape) → HasCells w.unions w.structs of → k < count
    → LocalMade w c (region_at r) index (ArrayShape count of)
    → AreMade c (at (source.beyond (spot_of r index 0) (k * length (cells_of w of)))) (0 + k * size_of w of) (layout_of w of).cells
element_led w c r index count k of has less made =
    subst (λ z. AreMade c (spot_in (region_at r) index z) (0 + k * size_of w of) (layout_of w of).cells) cells
    (subst (λ z. AreMade c (spot_in (region_at r) index (k * length (layout_of w of).cells)) z (layout_of w of).cells) bytes (made k less))
  where
    bytes : k * size_of w of ≡ 0 + k * size_of w of
    bytes = omega arith

    none : k * length (cells_of w of) ≡ 0 + k * length (cells_of w of)
    none = omega arith

    cells : k * length (layout_of w of).cells ≡ 0 + k * length (cells_of w of)
    cells = ap (λ z. k * z) (layout_count w of has) ∙ none

-- its cells, where the source has it
pub array_led : (w : World) (m : source.Memory) (c : core.Memory) (r : source.Region) (index count : ℕ) (of : Shape) → HasCells w.unions w.structs of
    → ((cell : ℕ) → m.cells (spot_of r index cell) ≡ first_array w count of cell) → LocalMade w c (region_at r) index (ArrayShape count of)
    → LeadsAll w m c of count (spot_of r index 0) 0
array_led w m c r index count of has here made k less = (
  subst (λ z. AreCells m z (cells_of w of)) (λ i. spot_of r index (none i))
      (element_there m r index count k source.first_content (cells_of w of) less here),
  element_led w c r index count k of has less made,
)
  where
    none : k * length (cells_of w of) ≡ 0 + k * length (cells_of w of)
    none = omega arith

-- and where it makes it
array_leads : (w : World) (m : source.Memory) (c : core.Memory) (frame index count : ℕ) (of : Shape) → HasCells w.unions w.structs of
    → m.objects (source.Frame frame) ≡ index → LocalMade w c (core.Frame frame) index (ArrayShape count of)
    → LeadsAll w (m_made m frame (first_array w count of)) c of count (local_spot frame index) 0
array_leads w m c frame index count of has number made =
    array_led w (m_made m frame (first_array w count of)) c (source.Frame frame) index count of has
    (λ cell. here_is m (source.Frame frame) index cell (first_array w count of) number) made

-- what they hold
array_shown : (p : Point) (m m1 : source.Memory) (c : Config) (count : ℕ) (of : Shape) (cell : ℕ) (shape : Shape) (v : Scalar)
    → AreStructs p.world.unions p.world.structs → IsObject p.world.unions p.world.structs of
    → LocalMade p.world c.memory (core.Frame p.frame) p.made (ArrayShape count of)
    → first_array p.world count of cell ≡ Some (record { shape = shape; content = Holds v })
    → IsShown p.world m1 (cleared (layout_of p.world of) count (at (local_spot p.frame p.made)) c.memory) (cell_spot p.frame p.made cell) shape v
array_shown p m m1 c count of cell shape v structs object made e = record {
  contents = firsts_of (cell_pieces p.world.unions shape);
  shown = first_shown p.world m1 c1 shape v first.is_value first.holds;
  held = subst (λ z. PartsHold c1 (spot_in (core.Frame p.frame) p.made z) 0 (firsts_of (cell_pieces p.world.unions shape))) (sym where_is)
      (element_holds l (core.Frame p.frame) p.made count (k * l.bytes) c.memory k i 0 parts (placed_at begins.offset shape)
      (cell_pieces p.world.unions shape) begins.others
      inside.less begins.less begins.is (λ j. ap (slice_get parts) (zero_on j))
      (made_at c.memory (core.Frame p.frame) p.made (k * length l.cells) (k * l.bytes) i l.cells parts (made k inside.less) begins.is));
}
  where
    l : Layout
    l = layout_of p.world of

    c1 : core.Memory
    c1 = cleared l count (at (local_spot p.frame p.made)) c.memory

    has : HasCells p.world.unions p.world.structs of
    has = object_cells p.world.unions p.world.structs of structs object

    inside : InElement count cell (map first_cell (cells_of p.world of)) (record { shape = shape; content = Holds v })
    inside = in_element count cell (map first_cell (cells_of p.world of)) (record { shape = shape; content = Holds v }) e

    k : ℕ
    k = inside.element

    i : ℕ
    i = inside.number

    first : IsFirstCell (cells_of p.world of) i shape v
    first = first_cell_is p.world.unions (cells_of p.world of) i shape v has.cells inside.is

    begins : BeginsWith p.world.unions l.cells i shape
    begins = layout_first p.world of i shape structs object first.here

    parts : List PartShape
    parts = map (part_shape_of (placed_at begins.offset shape)) (cell_pieces p.world.unions shape) ++ begins.others

    zero_on : (j : ℕ) → 0 + j ≡ j
    zero_on j = omega arith

    where_is : cell ≡ element_cell l k i
    where_is = inside.cell_is ∙ ap (λ z. k * z + i) (length-map (cells_of p.world of) first_cell ∙ sym (layout_count p.world of has))

-- ---- both do the same

pub array_begins : (p : Point) (n : ℕ) (scope : Scope) (name : List ℕ) (count : ℕ) (of : Shape) (shapes : List Shape) (then_act : Scope → Act Flow)
    (next : Flow → source.Memory → steps.Step) (m : source.Memory) (c : Config) (rest : Statements) (after : Next)
    → scope.world ≡ p.world → scope.frame ≡ p.frame → AreStructs p.world.unions p.world.structs → IsObject p.world.unions p.world.structs of
    → p.pending ≡ ArrayShape count of ∷ shapes → SameState p m c
    → BeginsIn p (with_local p name (ArrayShape count of) shapes) n m c
    (λ m'. then_act (with_binding scope name (Variable (ArrayShape count of) (local_spot p.frame p.made))) next m') (meaning.statements rest after)
    → SameAt p n (declared scope name (ArrayShape count of) (first_array scope.world count of) then_act next m) (meaning.statements
    (MoreStatements (Do (LocalAddress p.regions.all 0 p.made)) (MoreStatements (Do (Clear p.regions.all (layout_of p.world of) count)) rest)) after c)
array_begins p n scope name count of shapes then_act next m c rest after world frame structs object pending fits goes =
    declared_by p n scope name shape (λ w. first_array w count of) then_act next m code world frame fits.made stored
  where
    shape : Shape
    shape = ArrayShape count of

    layout : Layout
    layout = layout_of p.world of

    code : core_steps.Step
    code = meaning.statements
        (MoreStatements (Do (LocalAddress p.regions.all 0 p.made)) (MoreStatements (Do (Clear p.regions.all (layout_of p.world of) count)) rest)) after c

    spot : Spot
    spot = local_spot p.frame p.made

    all : ArePending p.world c.memory (core.Frame p.frame) p.made (shape ∷ shapes)
    all = subst (λ z. ArePending p.world c.memory (core.Frame p.frame) p.made z) pending fits.pending

    c1 : Config
    c1 = with_memory (cleared layout count (at spot) c.memory) (with_temp p.regions.all (Pointer (at spot) 0) c)

    agree1 : SameMemory p.world m c1.memory
    agree1 = agree_cleared p.world m c.memory p.frame p.made layout count fits.agree fits.made

    later1 : (b : Bound) → Grown b m c.memory m c1.memory
    later1 b = cleared_later b m c.memory layout count (at spot) (named_free b spot)

    fits1 : SameState p m c1
    fits1 = fits_later p m m c c1 fits agree1 (later1 (within p)) refl
        (kept_temp p.regions.all p.regions.all (Pointer (at spot) 0) c c (omega arith) (λ k less. refl))

    all1 : ArePending p.world c1.memory (core.Frame p.frame) p.made (shape ∷ shapes)
    all1 = subst (λ z. ArePending p.world c1.memory (core.Frame p.frame) p.made z) pending fits1.pending

    o : Object
    o = first_array p.world count of

    m1 : source.Memory
    m1 = m_made m p.frame o

    fits2 : SameState (with_local p name shape shapes) m1 c1
    fits2 = object_fits p m c1 name shape shapes o pending fits1
        (array_leads p.world m c1.memory p.frame p.made count of (object_cells p.world.unions p.world.structs of structs object) fits1.made all1.0)
        (array_unlent count source.first_content first_free (cells_of p.world of)) (λ cell z v e. array_shown p m m c count of cell z v structs object all.0 e)

    stored : is_live m (source.Frame p.frame) ≡ true → SameAt p n (then_act (with_binding scope name (Variable shape spot)) next m1) code
    stored live =
        subst (λ z. SameAt p n (then_act (with_binding scope name (Variable shape spot)) next m1) z)
        (sym (array_cleared c p.regions.all p.made p.frame p.outer layout count (meaning.statements rest after) fits.blocks
        (sym (fits.agree.live (source.Frame p.frame)) ∙ live) (array_there p.world c.memory (core.Frame p.frame) p.made count of all.0)))
        (goes.go m1 c1 fits2
        (later_on (around p p.frame) m m m1 c.memory c1.memory c1.memory (later1 (around p p.frame))
        (grown_later (around p p.frame) m c1.memory p.frame o (omega arith) fits.agree.unmade)) refl
        (kept_temp p.regions.all p.regions.all (Pointer (at spot) 0) c c (omega arith) (λ k less. refl)))
