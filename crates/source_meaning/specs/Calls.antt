-- Believed: what operators, calls and makings denote, from what their parts do.
use Rattle.std.specs.Prelude.{ℕ, zero, suc, ◌+◌, ◌-◌, ◌*◌, ◌%◌, ◌^◌, Bool, true, false, Option, Some, None, List, [], ◌∷◌, ◌++◌, map, length, nat_lt, bytes_eq}
use Rattle.std.specs.Prelude.{codes, if◌then◌else◌}
use Rattle.cyc_tree.specs.declared.expression.Operator.{Operator}
use Rattle.cyc_tree.specs.declared.expression.Operator.TheVariants.{Subtract, BitXor}
use Rattle.cyc_tree.specs.declared.expression.Prefix.{Prefix}
use Rattle.cyc_tree.specs.declared.expression.Prefix.TheVariants.{Negate, Not, Complement, Dereference, AddressOf}
use Rattle.cyc_words.specs.Events.{ByteWritten}
use Rattle.source_meaning.specs.Shapes.{Owner, Shared, Alone, Shape, IntShape, UnsignedShape, CharShape, NeverNull, ThinShape, FatShape, StructShape}
use Rattle.source_meaning.specs.Shapes.{UnionShape, parts_of, has_tag, part_position, part_shape, part_shapes}
use Rattle.source_meaning.specs.Memory.{IntegerType, AsInt, AsUnsigned, AsChar, Frame, Spot, Scalar, Integer, Thin, Wide, Tagged, beyond, object_of, array_of}
use Rattle.source_meaning.specs.Memory.{first_cell, blank_cell, blank_object}
use Rattle.source_meaning.specs.Steps.{Routine, World, Act, give, ◌>>=◌, ◌>>◌, stuck, show, pay, invoke, memory, need, choose}
use Rattle.step_trees.specs.Trees.{Reads}
use Rattle.source_meaning.specs.Operators.{truth_value, operated, is_true, operator_shape}
use Rattle.source_meaning.specs.Conversions.{cells_of, size_of, converted, one, integer}
use Rattle.source_meaning.specs.Values.{write_cells}
use Rattle.source_meaning.specs.Making.{saturated, Maker, AsUnique, maker_of, ask, make_object}
use Rattle.source_meaning.specs.Places.{Sense, value_sense, no_sense, span_at, contents, address_of}
use Rattle.source_meaning.specs.Regions.{in_block}

-- ---- constants and operators

-- a literal is a word, and a character a byte
abbrev pub constant : IntegerType → ℕ → Sense
constant AsInt n = value_sense IntShape (give (Integer AsInt (n % 2 ^ 32) ∷ []))
constant AsUnsigned n = value_sense UnsignedShape (give (Integer AsUnsigned (n % 2 ^ 32) ∷ []))
constant AsChar n = value_sense CharShape (give (Integer AsChar (n % 256) ∷ []))

-- a number without suffix up to 2147483647 is an int, and any other is unsigned
abbrev pub number_type : ℕ → Bool → IntegerType
number_type n true = AsUnsigned
number_type n false = (if nat_lt n (2 ^ 31) then AsInt else AsUnsigned)

-- a binary operator: the left operand goes first
abbrev pub applied : Operator → Sense → Sense → Sense
applied o a b =
    value_sense (operator_shape o a.shape b.shape)
    (a.look >>= one >>= λ x. b.look >>= one >>= λ y. memory >>= λ m. need (operated m o x y) >>= λ r. give (r ∷ []))

-- whether an operand or a condition is true; it is looked at
abbrev pub truth : Sense → Act Bool
truth e = e.look >>= one >>= λ v. need (is_true v)

-- && stops at the first operand that is false
abbrev pub all_true : List Sense → Act Bool
all_true [] = give true
all_true (e ∷ es) = truth e >>= λ t. choose t (all_true es) (give false)

-- || stops at the first operand that is true
abbrev pub any_true : List Sense → Act Bool
any_true [] = give false
any_true (e ∷ es) = truth e >>= λ t. choose t (give true) (any_true es)

-- a test gives the int 0 or 1
abbrev pub tested : Act Bool → Sense
tested act = value_sense IntShape (act >>= λ t. give (truth_value t ∷ []))

-- !e
abbrev pub inverted : Act Bool → Act Bool
inverted act = act >>= λ t. choose t (give false) (give true)

-- -e is 0 - e, and ~e is e with each bit turned
abbrev pub prefixed : World → Prefix → Sense → Sense
prefixed w Negate e = applied Subtract (constant AsInt 0) e
prefixed w Complement e = applied BitXor (constant AsInt (2 ^ 32 - 1)) e
prefixed w Not e = tested (inverted (truth e))
prefixed w Dereference e = contents w e
prefixed w AddressOf e = address_of e

-- the elements from the current one on: 0 where it isn't below the count, and 0 for NULL
abbrev pub elements_left : Scalar → Act Scalar
elements_left (Wide None) = give (Integer AsUnsigned 0)
elements_left (Wide (Some s)) = give (Integer AsUnsigned (s.count - s.index))
elements_left v = stuck

-- numelts(e), an unsigned number
abbrev pub counted : Sense → Sense
counted e = value_sense UnsignedShape (e.look >>= one >>= elements_left >>= λ n. give (n ∷ []))

-- ---- calls

-- from the left, each value converted before the next is evaluated
abbrev pub converted_all : World → List Shape → List Sense → Act (List (List Scalar))
converted_all w [] [] = give []
converted_all w (s ∷ ss) (e ∷ es) =
    e.value >>= converted w s e.shape >>= λ vs. converted_all w ss es >>= λ vss. give (vs ∷ vss)
converted_all w [] (e ∷ es) = stuck
converted_all w (s ∷ ss) [] = stuck

-- the cells of several values, one after the other
abbrev pub flat : List (List Scalar) → List Scalar
flat [] = []
flat (vs ∷ vss) = vs ++ flat vss

-- the function of a name
abbrev pub function_of : List Routine → List ℕ → Option Routine
function_of [] name = None
function_of (f ∷ fs) name = (if bytes_eq f.name name then Some f else function_of fs name)

-- a call of one of the program's functions: its unit is due after the arguments
abbrev pub called : World → Option Routine → List Sense → Sense
called w None arguments = no_sense
called w (Some f) arguments =
    value_sense f.result (converted_all w (part_shapes f.parameters) arguments >>= λ vss. invoke f w vss)

-- the byte that was read, or -1 at the end of the input
abbrev pub byte_value : Option ℕ → ℕ
byte_value None = 2 ^ 32 - 1
byte_value (Some b) = b

-- `getchar`: its unit is due before it reads
abbrev pub read_byte : List Sense → Act (List Scalar)
read_byte [] = pay >> λ next m. Reads (λ b. next (Integer AsInt (byte_value b) ∷ []) m)
read_byte (e ∷ es) = stuck

-- `putchar`: its unit is due after its argument and before its byte; it writes the low 8 bits and gives them
abbrev pub write_byte : World → List Sense → Act (List Scalar)
write_byte w arguments =
    converted_all w (IntShape ∷ []) arguments >>= λ vss. one (flat vss) >>= integer >>= λ x.
    pay >> (show (ByteWritten (x % 256)) >> give (Integer AsInt (x % 256) ∷ []))

-- S(e1, .., en): a struct from its members in order; it is no call, and takes no unit
abbrev pub struct_made : World → List ℕ → List Sense → Sense
struct_made w tag arguments =
    value_sense (StructShape tag) (converted_all w (part_shapes (parts_of w.structs tag)) arguments >>= λ vss. give (flat vss))

-- a call by a name: one of the two that every program has, the making of a struct, or one of the program's functions
abbrev pub call_sense : World → List ℕ → List Sense → Sense
call_sense w name arguments =
    (if bytes_eq name (codes "getchar") then value_sense IntShape (read_byte arguments)
    else (if bytes_eq name (codes "putchar") then value_sense IntShape (write_byte w arguments)
    else (if has_tag w.structs name then struct_made w name arguments
    else called w (function_of w.functions name) arguments)))

-- ---- made values

-- U.M(e): a union value that holds the member M
abbrev pub union_made : World → List ℕ → List ℕ → Sense → Sense
union_made w tag f e =
    let parts = parts_of w.unions tag in
    value_sense (UnionShape tag)
    (e.value >>= converted w (part_shape parts f) e.shape >>= one >>= λ v. need (part_position parts f) >>= λ k. give (Tagged k v ∷ []))

-- `new` and `rnew`: the handle is evaluated, then the value, then memory is asked for, and then the value is stored
abbrev pub made : World → Act Maker → Owner → Sense → Sense
made w where_to owner e =
    value_sense (ThinShape (NeverNull 1) owner e.shape)
    (where_to >>= λ to. e.value >>= λ vs. ask to (size_of w e.shape) (blank_object (cells_of w e.shape)) >>= λ s.
    write_cells s vs >> give (Thin (Some s) ∷ []))

-- the index of an array's elements: the one object of their block, an unsigned variable that begins with 0
abbrev pub index_in : ℕ → Spot
index_in k = record { region = Frame k; object = 0; cell = 0 }

abbrev pub index_made : ℕ → Act Spot
index_made k = make_object (Frame k) (object_of (first_cell UnsignedShape ∷ []))

-- the given number of elements from the i-th on, in order: a unit is due before each, the index gets its number, and then the element is evaluated and stored
abbrev pub elements : ℕ → ℕ → ℕ → Spot → Spot → Sense → Act (Unit {0})
elements cells zero i s index e = give tt
elements cells (suc n) i s index e =
    pay >> (write_cells index (Integer AsUnsigned i ∷ []) >> (e.value >>= λ vs. write_cells (beyond s (i * cells)) vs >> elements cells n (i + 1) s index e))

-- An array of made elements: the handle is evaluated, then the count, which is taken as unsigned; memory is asked for, and then come the elements, in one
-- activation of a block for the index. The bytes asked for are the count times an element's, or the greatest word where that is greater.
abbrev pub array_made : World → Act Maker → Sense → (ℕ → Sense) → Sense
array_made w where_to count element_at =
    let shape = (element_at 0).shape in
    let cells = cells_of w shape in
    value_sense (FatShape shape)
    (where_to >>= λ to. count.look >>= one >>= integer >>= λ n.
    ask to (saturated (n * size_of w shape)) (array_of n (map blank_cell cells)) >>= λ s.
    in_block (λ k. index_made k >> elements (length cells) n 0 s (index_in k) (element_at k)) >> give (span_at n s ∷ []))

-- the region that a handle opens
abbrev pub handle_maker : Sense → Act Maker
handle_maker h = h.look >>= one >>= maker_of

-- in the unique region, or in that of a handle
abbrev pub made_in : World → Bool → Sense → Sense → Sense
made_in w true h e = made w (give AsUnique) Alone e
made_in w false h e = made w (handle_maker h) Shared e
