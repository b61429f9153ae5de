-- Believed: code, fat pointers and their elements, and the members of structs: their shapes, where they are, and how they are reached.
use Rattle.std.specs.Prelude.{ℕ, zero, ◌+◌, ◌*◌, List, [], ◌∷◌, ◌++◌, length}
use Rattle.cyc_words.specs.declared.faults.Kind.{Kind}
use Rattle.cyc_words.specs.declared.faults.Kind.TheVariants.{NullException, ArrayBounds}
use Rattle.cyc_tree.specs.Tree.{Suffixes, NoSuffixes, Index, Dot, Arrow}
use Rattle.source_meaning.specs.Shapes.{Reach, count_of, MayBeNull, Shape, CharShape, ThinShape, FatShape, ArrayShape, pointee, part_shape}
use Rattle.source_meaning.specs.Sizes.{cells_before}
use Rattle.source_meaning.specs.Steps.{World}
use Rattle.source_meaning.specs.Conversions.{cells_of}
use Rattle.source_meaning.specs.Places.{struct_parts}
use Rattle.core_meaning.specs.Core.{Distance, Constant, Apply, Add, LessUnsigned, Offset, Element, Load, Store, Statement, Do, If, Raise, Statements}
use Rattle.core_meaning.specs.Core.{NoStatements, MoreStatements}
use Rattle.source_lowering.specs.Layouts.{extent_of, bytes_before}

-- ---- code

-- code, and what comes after it
abbrev pub put : List Statement → Statements → Statements
put [] rest = rest
put (s ∷ ss) rest = MoreStatements s (put ss rest)

abbrev pub all_of : List Statement → Statements
all_of code = put code NoStatements

-- a char takes a byte, all else a word
abbrev pub width_of : Shape → ℕ
width_of CharShape = 1
width_of s = 4

abbrev pub distance : ℕ → ℕ → ℕ → Distance
distance cells bytes width = record { cells = cells; bytes = bytes; part = 0; width = width }

-- a fat pointer's part so far on
abbrev pub part_at : (cells bytes part : ℕ) → Distance
part_at cells bytes part = record { cells = cells; bytes = bytes + 4 * part; part = part; width = 4 }

-- The value that lies so far on from where this temporary points is read into it and those behind it, the pointer's own part last.
abbrev pub loads_code : Shape → (d cells bytes : ℕ) → List Statement
loads_code (FatShape to) d cells bytes =
    Do (Load (d + 2) d (part_at cells bytes 2)) ∷ Do (Load (d + 1) d (part_at cells bytes 1)) ∷ Do (Load d d (part_at cells bytes 0)) ∷ []
loads_code s d cells bytes = Do (Load d d (distance cells bytes (width_of s))) ∷ []

-- the value in the temporaries from d on is stored where p points
abbrev pub stores_code : Shape → (p d cells bytes : ℕ) → List Statement
stores_code (FatShape to) p d cells bytes =
    Do (Store p (part_at cells bytes 0) d) ∷ Do (Store p (part_at cells bytes 1) (d + 1)) ∷ Do (Store p (part_at cells bytes 2) (d + 2)) ∷ []
stores_code s p d cells bytes = Do (Store p (distance cells bytes (width_of s)) d) ∷ []

-- ---- tagged unions: a tag, and the words of the member that it says

-- the tag of the union to which a pointer in p leads is read
abbrev pub tag_load : (t p : ℕ) → List Statement
tag_load t p = Do (Load t p (part_at 0 0 0)) ∷ []

-- it is set, through a temporary
abbrev pub tag_store : (p t number : ℕ) → List Statement
tag_store p t number = Do (Constant t number) ∷ Do (Store p (part_at 0 0 0) t) ∷ []

-- The member of a shape that the union holds to which this temporary points is read into it and those behind it, the pointer's own part last.
abbrev pub held_loads : Shape → ℕ → List Statement
held_loads (FatShape to) d = Do (Load (d + 2) d (part_at 0 0 3)) ∷ Do (Load (d + 1) d (part_at 0 0 2)) ∷ Do (Load d d (part_at 0 0 1)) ∷ []
held_loads s d = Do (Load d d (part_at 0 0 1)) ∷ []

-- the value in the temporaries from d on becomes the member of the union where p points
abbrev pub held_stores : Shape → (p d : ℕ) → List Statement
held_stores (FatShape to) p d = Do (Store p (part_at 0 0 1) d) ∷ Do (Store p (part_at 0 0 2) (d + 1)) ∷ Do (Store p (part_at 0 0 3) (d + 2)) ∷ []
held_stores s p d = Do (Store p (part_at 0 0 1) d) ∷ []

-- how many temporaries a value takes: a fat pointer three, all else one
abbrev pub words_in : Shape → ℕ
words_in (FatShape to) = 3
words_in s = 1

abbrev pub all_words : List Shape → ℕ
all_words [] = 0
all_words (s ∷ ss) = words_in s + all_words ss

-- NULL raises
abbrev pub null_check : ℕ → List Statement
null_check d = If d NoStatements (MoreStatements (Raise NullException) NoStatements) ∷ []

-- a pointer of a shape is checked where it may be NULL
abbrev pub check_code : Shape → ℕ → List Statement
check_code (ThinShape (MayBeNull count) owner to) d = null_check d
check_code s d = []

-- ---- fat pointers

-- the count behind a pointer, and the index 0
abbrev pub bounds_code : (d count : ℕ) → List Statement
bounds_code d count = Do (Constant (d + 1) count) ∷ Do (Constant (d + 2) 0) ∷ []

abbrev pub raised : Kind → Statements
raised kind = all_of (Raise kind ∷ [])

-- behind the comparison of its index with its count: where that isn't below, something else is done, and else t gets the element
abbrev pub reached_code : World → Shape → (t p : ℕ) → Statements → List Statement
reached_code w to t p otherwise =
    If (p + 1) NoStatements otherwise ∷ Do (Element t p (p + 2) (length (cells_of w to)) (extent_of w to).size) ∷ []

-- t gets the element to which the fat pointer from p on leads. Where its index isn't below its count, NULL, whose count is 0, raises a null exception, and
-- any other one that of array bounds.
abbrev pub element_code : World → Shape → (t p : ℕ) → List Statement
element_code w to t p =
    Do (Apply LessUnsigned (p + 1) (p + 2) (p + 1)) ∷ reached_code w to t p (all_of (If p (raised ArrayBounds) (raised NullException) ∷ []))

-- what a pointer of a shape leads to, checked
abbrev pub reach_code : World → Shape → ℕ → List Statement
reach_code w (FatShape to) d = element_code w to d d
reach_code w s d = check_code s d

-- a[b]: b is in this temporary, and the fat pointer in the three behind it; the index wraps
abbrev pub index_code : World → Shape → ℕ → List Statement
index_code w to d = Do (Apply Add (d + 3) (d + 3) d) ∷ element_code w to d (d + 1)

-- p[e] of a thin pointer: e is in this temporary, and the pointer in the next. NULL raises, and so does an index that isn't below the bound.
abbrev pub bound_code : World → Reach → Shape → ℕ → List Statement
bound_code w bound to d =
    Do (Constant (d + 2) (count_of bound)) ∷ Do (Apply LessUnsigned (d + 2) d (d + 2)) ∷ If (d + 2) NoStatements (raised ArrayBounds)
    ∷ Do (Element d (d + 1) d (length (cells_of w to)) (extent_of w to).size) ∷ []

-- a subscript, by the shape of what it is of
abbrev pub subscript_code : World → Shape → ℕ → List Statement
subscript_code w (ThinShape bound owner to) d = check_code (ThinShape bound owner to) (d + 1) ++ bound_code w bound to d
subscript_code w s d = index_code w (pointee s) d

-- ---- shapes of members

-- the shape of a struct's member
abbrev pub member_shape : World → Shape → List ℕ → Shape
member_shape w s f = part_shape (struct_parts w s) f

-- what an array's name is as a value
abbrev pub valued : Shape → Shape
valued (ArrayShape count of) = FatShape of
valued s = s

-- that of what suffixes lead to, from what is on their left
abbrev pub suffixed_shape : World → Suffixes → Shape → Shape
suffixed_shape w NoSuffixes left = left
suffixed_shape w (Index index others) left = suffixed_shape w others (pointee left)
suffixed_shape w (Dot f others) left = suffixed_shape w others (member_shape w left f.text)
suffixed_shape w (Arrow f others) left = suffixed_shape w others (member_shape w (pointee left) f.text)

-- ---- their code

-- a pointer so far on
abbrev pub offset_code : ℕ → (cells bytes : ℕ) → List Statement
offset_code d zero zero = []
offset_code d cells bytes = Do (Offset d d cells bytes) ∷ []

-- What stands on the left of suffixes, by the temporary that it comes into: its shape, the code of its value, and of its place: the code of a pointer, and how
-- far on from there the place is.
pub record Left : Type 0 where
  pub shape : Shape
  pub value : ℕ → List Statement
  pub pointer : ℕ → List Statement
  pub cells : ℕ
  pub bytes : ℕ

-- what suffixes begin with: its value, and a pointer to its place
abbrev pub left_of : Shape → (value pointer : ℕ → List Statement) → Left
left_of s value pointer = record { shape = s; value = value; pointer = pointer; cells = 0; bytes = 0 }

-- a member of a struct that lies so far on from where a pointer leads
abbrev pub member_at : World → Shape → (pointer : ℕ → List Statement) → (cells bytes : ℕ) → List ℕ → Left
member_at w s pointer cells bytes f =
    let parts = struct_parts w s in
    let more_cells = cells + cells_before (cells_of w) parts f in
    let more_bytes = bytes + bytes_before (extent_of w) 0 parts f in
    record {
      shape = member_shape w s f;
      value = λ d. pointer d ++ loads_code (member_shape w s f) d more_cells more_bytes;
      pointer = pointer;
      cells = more_cells;
      bytes = more_bytes;
    }

-- a member of the struct that a value leads to
abbrev pub member_behind : World → Left → List ℕ → Left
member_behind w left f = member_at w (pointee left.shape) (λ d. left.value d ++ reach_code w left.shape d) 0 0 f

-- An element: its index is evaluated first, and what stands on its left behind it; both lead to it.
abbrev pub element_at : World → Shape → (index value : ℕ → List Statement) → Left
element_at w from index value =
    let pointer : ℕ → List Statement = λ d. index d ++ (value (d + 1) ++ subscript_code w from d) in
    record { shape = pointee from; value = λ d. pointer d ++ loads_code (pointee from) d 0 0; pointer = pointer; cells = 0; bytes = 0 }

-- a pointer to what the suffixes lead to
abbrev pub pointer_to : Left → ℕ → List Statement
pointer_to left d = left.pointer d ++ offset_code d left.cells left.bytes

-- the value in the temporaries from d on is stored there, by a pointer in p
abbrev pub store_to : Left → (p d : ℕ) → List Statement
store_to left p d = left.pointer p ++ stores_code left.shape p d left.cells left.bytes
