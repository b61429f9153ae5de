-- Believed: the code of conversions and of operators.
use Rattle.std.specs.Prelude.{ℕ, ◌%◌, ◌^◌, ◌+◌, nat_eq, if◌then◌else◌, List, [], ◌∷◌, ◌++◌}
use Rattle.cyc_words.specs.declared.faults.Kind.TheVariants.{ArrayBounds}
use Rattle.cyc_tree.specs.declared.expression.Operator.{Operator}
use Rattle.cyc_tree.specs.declared.expression.Operator.TheVariants as operator
use Rattle.cyc_tree.specs.declared.expression.Prefix.{Prefix}
use Rattle.cyc_tree.specs.declared.expression.Prefix.TheVariants as prefix
use Rattle.source_meaning.specs.Shapes.{Reach, MayBeNull, NeverNull, Shape, IntShape, UnsignedShape, CharShape, ThinShape, FatShape, pointee}
use Rattle.source_meaning.specs.Memory.{IntegerType, AsInt, AsUnsigned, AsChar}
use Rattle.source_meaning.specs.Steps.{World}
use Rattle.source_meaning.specs.Operators.{common, by_type}
use Rattle.source_lowering.specs.Members.{null_check, all_of, loads_code, check_code, bounds_code, raised, reached_code, reach_code}
use Rattle.source_meaning.specs.Conversions.{cells_of}
use Rattle.std.specs.Prelude.{length}
use Rattle.source_lowering.specs.Layouts.{extent_of}
use Rattle.core_meaning.specs.Core as core
use Rattle.core_meaning.specs.Core.{Operation, Constant, Narrow, Apply, IsNull, SamePlace, Statement, Do, If, NoStatements}

-- ---- conversions

-- only what becomes a char changes
abbrev pub narrow_code : Shape → ℕ → List Statement
narrow_code CharShape d = []
narrow_code s d = Do (Narrow d d) ∷ []

-- thin to fat: as many elements as the bound of the thin pointer, or none for NULL
abbrev pub to_fat_code : Shape → ℕ → List Statement
to_fat_code (ThinShape (NeverNull count) owner to) d = bounds_code d (count % 2 ^ 32)
to_fat_code (ThinShape (MayBeNull count) owner to) d =
    If d (all_of (Do (Constant (d + 1) (count % 2 ^ 32)) ∷ [])) (all_of (Do (Constant (d + 1) 0) ∷ [])) ∷ Do (Constant (d + 2) 0) ∷ []
to_fat_code s d = []

-- The element of a fat pointer that isn't NULL, where its index is below the count.
abbrev pub one_code : World → Shape → ℕ → List Statement
one_code w to d = Do (Apply core.LessUnsigned (d + 1) (d + 2) (d + 1)) ∷ reached_code w to d d (raised ArrayBounds)

-- And `count` elements are left from there on.
abbrev pub several_code : World → (count : ℕ) → Shape → ℕ → List Statement
several_code w count to d =
    Do (Apply core.LessUnsigned (d + 3) (d + 2) (d + 1)) ∷ If (d + 3) NoStatements (raised ArrayBounds) ∷ Do (Apply core.Subtract (d + 1) (d + 1) (d + 2))
    ∷ Do (Constant (d + 3) count) ∷ Do (Apply core.LessUnsigned (d + 1) (d + 1) (d + 3)) ∷ If (d + 1) (raised ArrayBounds) NoStatements
    ∷ Do (core.Element d d (d + 2) (length (cells_of w to)) (extent_of w to).size) ∷ []

-- one element is there wherever the current one is
abbrev pub enough_code : World → (count : ℕ) → Shape → ℕ → List Statement
enough_code w count to d = (if nat_eq count 1 then one_code w to d else several_code w count to d)

-- fat to thin: NULL stays NULL or raises, and else `count` elements have to be there from the current one on
abbrev pub to_thin_code : World → Reach → Shape → ℕ → List Statement
to_thin_code w (NeverNull count) to d = null_check d ++ enough_code w (count % 2 ^ 32) to d
to_thin_code w (MayBeNull count) to d = If d (all_of (enough_code w (count % 2 ^ 32) to d)) NoStatements ∷ []

-- What becomes a thin pointer: a thin one is checked where the place never holds NULL.
abbrev pub thinned_code : World → Reach → Shape → Shape → ℕ → List Statement
thinned_code w bound to (FatShape of) d = to_thin_code w bound to d
thinned_code w (NeverNull count) to from d = check_code from d
thinned_code w (MayBeNull count) to from d = []

abbrev pub conversion_code : World → Shape → Shape → ℕ → List Statement
conversion_code w CharShape from d = narrow_code from d
conversion_code w (ThinShape bound owner to) from d = thinned_code w bound to from d
conversion_code w (FatShape to) from d = to_fat_code from d
conversion_code w to from d = []

-- ---- operators

abbrev pub type_of : Shape → IntegerType
type_of UnsignedShape = AsUnsigned
type_of CharShape = AsChar
type_of s = AsInt

-- `x > y` is `y < x`, and `x >= y` is `y <= x`
abbrev pub applied_to : Operator → IntegerType → IntegerType → (t x y : ℕ) → Operation
applied_to operator.BitOr s t d x y = Apply core.Or d x y
applied_to operator.BitXor s t d x y = Apply core.Xor d x y
applied_to operator.BitAnd s t d x y = Apply core.And d x y
applied_to operator.Equal s t d x y = Apply core.Equal d x y
applied_to operator.NotEqual s t d x y = Apply core.NotEqual d x y
applied_to operator.Less s t d x y = Apply (by_type (common s t) core.Less core.LessUnsigned) d x y
applied_to operator.LessEqual s t d x y = Apply (by_type (common s t) core.LessEqual core.LessEqualUnsigned) d x y
applied_to operator.Greater s t d x y = Apply (by_type (common s t) core.Less core.LessUnsigned) d y x
applied_to operator.GreaterEqual s t d x y = Apply (by_type (common s t) core.LessEqual core.LessEqualUnsigned) d y x
applied_to operator.ShiftLeft s t d x y = Apply core.ShiftLeft d x y
applied_to operator.ShiftRight s t d x y = Apply (by_type s core.ShiftRight core.ShiftRightUnsigned) d x y
applied_to operator.Add s t d x y = Apply core.Add d x y
applied_to operator.Subtract s t d x y = Apply core.Subtract d x y
applied_to operator.Multiply s t d x y = Apply core.Multiply d x y
applied_to operator.Divide s t d x y = Apply (by_type (common s t) core.Divide core.DivideUnsigned) d x y
applied_to operator.Remainder s t d x y = Apply (by_type (common s t) core.Remainder core.RemainderUnsigned) d x y

-- 1 becomes 0, and 0 becomes 1
abbrev pub turned_code : ℕ → List Statement
turned_code d = Do (Constant (d + 1) 0) ∷ Do (Apply core.Equal d d (d + 1)) ∷ []

-- pointers are compared by `==` and `!=` alone: this operation gives whether they are the same
abbrev pub compared_code : Operator → Operation → ℕ → List Statement
compared_code operator.Equal same d = Do same ∷ []
compared_code operator.NotEqual same d = Do same ∷ turned_code d
compared_code o same d = []

abbrev pub pointers_code : Operator → ℕ → List Statement
pointers_code o d = compared_code o (SamePlace d d (d + 1)) d

-- a pointer in x is compared with NULL
abbrev pub null_code : Operator → (d x : ℕ) → List Statement
null_code o d x = compared_code o (IsNull d x) d

-- a fat pointer is moved by the integer behind it, or compared with NULL
abbrev pub fat_code : Operator → ℕ → List Statement
fat_code operator.Add d = Do (Apply core.Add (d + 2) (d + 2) (d + 3)) ∷ []
fat_code operator.Subtract d = Do (Apply core.Subtract (d + 2) (d + 2) (d + 3)) ∷ []
fat_code o d = null_code o d d

-- the operands are in the temporaries from this one on, one after the other, and the result comes into the first ones
abbrev pub operator_code : Operator → Shape → Shape → ℕ → List Statement
operator_code o (FatShape to) t d = fat_code o d
operator_code o (ThinShape bound owner to) (FatShape of) d = null_code o d (d + 1)
operator_code o (ThinShape bound owner to) t d = pointers_code o d
operator_code o s t d = Do (applied_to o (type_of s) (type_of t) d d (d + 1)) ∷ []

-- how many elements a fat pointer leads to: the difference where the index is below the count, and 0 else
abbrev pub count_code : ℕ → List Statement
count_code d =
    Do (Apply core.LessUnsigned d (d + 2) (d + 1)) ∷ Do (Apply core.Subtract (d + 1) (d + 1) (d + 2)) ∷ Do (Apply core.Multiply d d (d + 1)) ∷ []

-- 0 stays 0, and another word becomes 1
abbrev pub truth_code : ℕ → List Statement
truth_code d = Do (Constant (d + 1) 0) ∷ Do (Apply core.NotEqual d d (d + 1)) ∷ []

-- an operand of `&&` and `||` becomes a word: NULL 0, and another pointer 1
abbrev pub word_code : Shape → ℕ → List Statement
word_code (ThinShape bound owner to) d = Do (IsNull d d) ∷ turned_code d
word_code (FatShape to) d = Do (IsNull d d) ∷ turned_code d
word_code s d = []

-- `!e`, from the next temporary: whether it is 0, or NULL
abbrev pub not_code : Shape → ℕ → List Statement
not_code (ThinShape bound owner to) d = Do (IsNull d (d + 1)) ∷ []
not_code (FatShape to) d = Do (IsNull d (d + 1)) ∷ []
not_code s d = Do (Constant d 0) ∷ Do (Apply core.Equal d (d + 1) d) ∷ []

-- `-e` is 0 - e, `~e` is all ones ^ e, and `!e` is e == 0: the operand goes into the next temporary. `*e` and `&e` have their pointer in this one.
abbrev pub prefix_code : World → Prefix → Shape → ℕ → (above here place : List Statement) → List Statement
prefix_code w prefix.Negate s d above here place = (Do (Constant d 0) ∷ []) ++ (above ++ operator_code operator.Subtract IntShape s d)
prefix_code w prefix.Complement s d above here place = (Do (Constant d 4294967295) ∷ []) ++ (above ++ operator_code operator.BitXor IntShape s d)
prefix_code w prefix.Not s d above here place = above ++ not_code s d
prefix_code w prefix.Dereference s d above here place = (here ++ reach_code w s d) ++ loads_code (pointee s) d 0 0
prefix_code w prefix.AddressOf s d above here place = place

-- a pointer to `*e`, whose code is here
abbrev pub pointed_code : World → Prefix → Shape → ℕ → (here : List Statement) → List Statement
pointed_code w prefix.Negate s d here = []
pointed_code w prefix.Complement s d here = []
pointed_code w prefix.Not s d here = []
pointed_code w prefix.Dereference s d here = here ++ reach_code w s d
pointed_code w prefix.AddressOf s d here = []
