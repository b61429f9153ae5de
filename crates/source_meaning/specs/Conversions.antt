-- Believed: conversions: what a value becomes where it is stored, passed or returned.
use Rattle.std.specs.Prelude.{ℕ, ◌^◌, ◌-◌, nat_le, ◌*◌, ◌%◌, ◌&&◌, Option, Some, None, List, [], ◌∷◌, length, nat_lt, if◌then◌else◌}
use Rattle.cyc_words.specs.declared.faults.Kind.TheVariants.{NullException, ArrayBounds}
use Rattle.source_meaning.specs.Shapes.{Reach, MayBeNull, NeverNull, bound_in, Owner, Shared, Shape, IntShape, UnsignedShape, CharShape, ThinShape, FatShape}
use Rattle.source_meaning.specs.Shapes.{same_shape, goes_to, pointee}
use Rattle.source_meaning.specs.Sizes.{cells_by, struct_cells, extent_by, struct_extent, union_extent}
use Rattle.source_meaning.specs.Memory.{AsInt, AsUnsigned, AsChar, Spot, Span, Scalar, Integer, Thin, Wide, beyond}
use Rattle.source_meaning.specs.Steps.{World, Act, give, ◌>>=◌, ◌>>◌, stuck, raise, check}

-- the scalar cells of a shape in a program
abbrev pub cells_of : World → Shape → List Shape
cells_of w s = cells_by (struct_cells w.structs) s

-- the bytes of a shape in a program
abbrev pub size_of : World → Shape → ℕ
size_of w s = let e = extent_by (struct_extent w.unions w.structs) (union_extent w.unions) s in e.size

-- the current element of a fat pointer, whose elements have `cells` cells each: NULL raises, and so does an index that isn't below the count
abbrev pub element : ℕ → Option Span → Act Spot
element cells None = raise NullException
element cells (Some s) = (if nat_lt s.index s.count then give (beyond s.first (s.index * cells)) else raise ArrayBounds)

-- thin to thin: where the place never holds NULL, NULL raises; the new pointer is to no more elements than the old one
abbrev pub thin_to_thin : Reach → ℕ → Option Spot → Act Scalar
thin_to_thin (MayBeNull count) all None = give (Thin None)
thin_to_thin (MayBeNull count) all (Some s) = check (nat_le (count % 2 ^ 32) all) >> give (Thin (Some s))
thin_to_thin (NeverNull count) all None = raise NullException
thin_to_thin (NeverNull count) all (Some s) = check (nat_le (count % 2 ^ 32) all) >> give (Thin (Some s))

-- the current element of a fat pointer, where `count` elements at least are left from there on
abbrev pub elements_from : (cells count : ℕ) → Option Span → Act Spot
elements_from cells count None = raise NullException
elements_from cells count (Some s) = element cells (Some s) >>= λ at. (if nat_le count (s.count - s.index) then give at else raise ArrayBounds)

-- fat to thin: NULL stays NULL or raises; otherwise the elements from the current one on have to be in bounds
abbrev pub fat_to_thin : Reach → ℕ → Option Span → Act Scalar
fat_to_thin (MayBeNull count) cells None = give (Thin None)
fat_to_thin (MayBeNull count) cells (Some s) = elements_from cells (count % 2 ^ 32) (Some s) >>= λ at. give (Thin (Some at))
fat_to_thin (NeverNull count) cells p = elements_from cells (count % 2 ^ 32) p >>= λ at. give (Thin (Some at))

-- thin to fat: `all` elements, which is the bound of the thin pointer, at index 0; NULL stays NULL
abbrev pub thin_to_fat : ℕ → Option Spot → Scalar
thin_to_fat all None = Wide None
thin_to_fat all (Some s) = Wide (Some (record { first = s; count = all; index = 0 }))

-- a pointer leads to what the place's shape says, as the shape of its own type does
abbrev pub leads : Owner → Shape → Shape → Act (Unit {0})
leads owner to from = check (goes_to owner from && same_shape to (pointee from))

-- NULL leads nowhere
abbrev pub thin_leads : Owner → Shape → Shape → Option Spot → Act (Unit {0})
thin_leads owner to from None = give tt
thin_leads owner to from (Some s) = leads owner to from

abbrev pub fat_leads : Owner → Shape → Shape → Option Span → Act (Unit {0})
fat_leads owner to from None = give tt
fat_leads owner to from (Some s) = leads owner to from

-- A value of the second shape becomes one of the first. Between integers the low bits are kept; other types are equal.
abbrev pub converted_scalar : World → Shape → Shape → Scalar → Act Scalar
converted_scalar w IntShape from (Integer t x) = give (Integer AsInt x)
converted_scalar w UnsignedShape from (Integer t x) = give (Integer AsUnsigned x)
converted_scalar w CharShape from (Integer t x) = give (Integer AsChar (x % 256))
converted_scalar w (ThinShape bound owner to) from (Thin p) = thin_leads owner to from p >> thin_to_thin bound (bound_in from) p
converted_scalar w (ThinShape bound owner to) from (Wide p) = fat_leads owner to from p >> fat_to_thin bound (length (cells_of w to)) p
converted_scalar w (FatShape to) from (Thin p) = thin_leads Shared to from p >> give (thin_to_fat (bound_in from) p)
converted_scalar w (FatShape to) from (Wide p) = fat_leads Shared to from p >> give (Wide p)
converted_scalar w s from v = check (same_shape s from) >> give v

-- a value of one cell is converted; a struct's cells are of equal types
abbrev pub converted : World → Shape → Shape → List Scalar → Act (List Scalar)
converted w s from (v ∷ []) = converted_scalar w s from v >>= λ c. give (c ∷ [])
converted w s from vs = check (same_shape s from) >> give vs

-- a value of one cell, where one is needed
abbrev pub one : List Scalar → Act Scalar
one (v ∷ []) = give v
one vs = stuck

-- the word of an integer, where one is needed
abbrev pub integer : Scalar → Act ℕ
integer (Integer t x) = give x
integer v = stuck

-- what a pointer points to: NULL raises, and so does a fat pointer whose element isn't in bounds
abbrev pub accessed : ℕ → Scalar → Act Spot
accessed cells (Thin None) = raise NullException
accessed cells (Thin (Some s)) = give s
accessed cells (Wide p) = element cells p
accessed cells v = stuck
