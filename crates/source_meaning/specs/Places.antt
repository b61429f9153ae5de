-- Believed: what an expression denotes, and the expressions that name places.
use Rattle.std.specs.Prelude.{ℕ, ◌+◌, Option, Some, None, List, [], ◌∷◌, length, nat_eq, bytes_eq, if◌then◌else◌, option_map}
use Rattle.cyc_words.specs.Words.{sum_of}
use Rattle.source_meaning.specs.Shapes.{Shared, Alone, Shape, VoidShape, NeverNull, ThinShape, FatShape, KeyShape, StructShape, UnionShape, ArrayShape, Part}
use Rattle.source_meaning.specs.Shapes.{bound_in, parts_of, part_shape, pointee}
use Rattle.source_meaning.specs.Sizes.{cells_before}
use Rattle.source_meaning.specs.Memory.{Spot, Scalar, Thin, Wide, beyond}
use Rattle.source_meaning.specs.Steps.{Entity, Variable, Binding, World, Scope, Act, give, ◌>>=◌, ◌>>◌, stuck}
use Rattle.source_meaning.specs.Conversions.{cells_of, one, integer, accessed, converted}
use Rattle.source_meaning.specs.Values.{read_cells, take_cells, write_cells}

-- An expression's meaning: the shape of its type, and how it runs as each of these. A value is a list of scalars, one a cell.
pub record Sense : Type 0 where
  pub shape : Shape
  -- its value, given away: what can't be copied is moved out of the place
  pub value : Act (List Scalar)
  -- its value, looked at, as operands and conditions do: the place keeps it
  pub look : Act (List Scalar)
  -- the place that it names
  pub place : Act Spot

-- what names no place
abbrev pub value_sense : Shape → Act (List Scalar) → Sense
value_sense s act = record { shape = s; value = act; look = act; place = stuck }

-- what names a place: its value is read there
abbrev pub place_sense : World → Shape → Act Spot → Sense
place_sense w s at = record {
  shape = s;
  value = at >>= λ spot. take_cells (cells_of w s) spot;
  look = at >>= λ spot. read_cells (length (cells_of w s)) spot;
  place = at;
}

-- what no rule gives a meaning
abbrev pub no_sense : Sense
no_sense = value_sense VoidShape stuck

-- ---- names

abbrev pub bound_to : List Binding → List ℕ → Option Entity
bound_to [] name = None
bound_to (b ∷ bs) name = (if bytes_eq b.name name then Some b.entity else bound_to bs name)

-- the first, or else the second
abbrev pub or_else : {A : Type 0} → Option A → Option A → Option A
or_else (Some a) b = Some a
or_else None b = b

-- a local hides what is outside of it
abbrev pub entity_of : Scope → List ℕ → Option Entity
entity_of scope name = or_else (bound_to scope.locals name) (bound_to scope.world.globals name)

-- a name comes into scope
abbrev pub with_binding : Scope → List ℕ → Entity → Scope
with_binding scope name e = record scope { locals = (record { name = name; entity = e }) ∷ scope.locals }

-- a fat pointer to the first of `count` elements
abbrev pub span_at : ℕ → Spot → Scalar
span_at count s = Wide (Some (record { first = s; count = count; index = 0 }))

-- an array's name is a fat pointer to its first element, and no place
abbrev pub entity_sense : World → Option Entity → Sense
entity_sense w None = no_sense
entity_sense w (Some (Variable (ArrayShape count of) at)) = value_sense (FatShape of) (give (span_at count at ∷ []))
entity_sense w (Some (Variable s at)) = place_sense w s (give at)

-- a string literal is a fat pointer to its object, which is found by the literal's place in the text
abbrev pub string_at : List (ℕ × Scalar) → ℕ → Option Scalar
string_at [] at = None
string_at (s ∷ ss) at = (if nat_eq s.0 at then Some s.1 else string_at ss at)

-- A string's value, if it has `count` elements; else NULL.
abbrev pub own_string : ℕ → Scalar → Scalar
own_string count (Wide (Some s)) = Wide (if nat_eq s.count count then Some s else None)
own_string count v = v

-- The string of a literal by its place and bytes: it has them and a final 0. (A text has one literal at a place. A tree that isn't a text's may have two: the
-- other one has NULL, unless it has as many bytes.)
abbrev pub literal_string : List (ℕ × Scalar) → (at : ℕ) (bytes : List ℕ) → Option Scalar
literal_string strings at bytes = option_map (own_string (length bytes + 1)) (string_at strings at)

-- ---- places

-- *e, whose pointer is looked at
abbrev pub contents : World → Sense → Sense
contents w e =
    place_sense w (pointee e.shape) (e.look >>= one >>= λ p. accessed (length (cells_of w (pointee e.shape))) p)

-- The fat pointer moved by an index, which wraps. A thin pointer leads to `all` elements; the index says which one.
abbrev pub indexed_span : (all k : ℕ) → Scalar → Act Scalar
indexed_span all k (Wide None) = give (Wide None)
indexed_span all k (Wide (Some s)) = give (Wide (Some (record s { index = sum_of s.index k })))
indexed_span all k (Thin None) = give (Wide None)
indexed_span all k (Thin (Some s)) = give (Wide (Some (record { first = s; count = all; index = k })))
indexed_span all k v = stuck

-- a[b]: b goes before a
abbrev pub indexed : World → Sense → Sense → Sense
indexed w a b =
    place_sense w (pointee a.shape)
    (b.look >>= one >>= integer >>= λ k. a.look >>= one >>= indexed_span (bound_in a.shape) k >>= λ p.
    accessed (length (cells_of w (pointee a.shape))) p)

-- the members of a struct
abbrev pub struct_parts : World → Shape → List Part
struct_parts w (StructShape tag) = parts_of w.structs tag
struct_parts w s = []

-- e.f, of a place of a struct
abbrev pub member : World → Sense → List ℕ → Sense
member w e f =
    let parts = struct_parts w e.shape in
    place_sense w (part_shape parts f) (e.place >>= λ s. give (beyond s (cells_before (cells_of w) parts f)))

-- &e makes the checks of an access to the place, and gives a pointer that is never NULL
abbrev pub address_of : Sense → Sense
address_of e = value_sense (ThinShape (NeverNull 1) Shared e.shape) (e.place >>= λ s. give (Thin (Some s) ∷ []))

-- what an assignment gives: what is stored; a struct, a union, a unique pointer and a key give nothing
abbrev pub given_by : Shape → List Scalar → List Scalar
given_by (StructShape tag) vs = []
given_by (UnionShape tag) vs = []
given_by (ThinShape bound Alone to) vs = []
given_by KeyShape vs = []
given_by s vs = vs

-- an assignment: the value is evaluated and converted before its place is evaluated
abbrev pub assigned : World → Sense → Sense → Sense
assigned w to from =
    value_sense to.shape
    (from.value >>= converted w to.shape from.shape >>= λ vs. to.place >>= λ s. write_cells s vs >> give (given_by to.shape vs))
