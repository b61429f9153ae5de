-- Believed: what expressions are lowered by, beside conversions and operators: names, shapes that are known without a run, variables, strings, calls.
use Rattle.std.specs.Prelude.{ℕ, zero, suc, ◌+◌, Bool, true, false, Option, Some, None, List, [], ◌∷◌, bytes_eq, codes, unwrap_or, if◌then◌else◌}
use Rattle.cyc_tree.specs.declared.expression.Operator.TheVariants as operator
use Rattle.cyc_tree.specs.declared.expression.Prefix.{Prefix}
use Rattle.cyc_tree.specs.declared.expression.Prefix.TheVariants as prefix
use Rattle.cyc_tree.specs.Tree.{Expression, Expressions, NoExpressions, MoreExpressions, Links, NoLinks, MoreLinks, Made, One, Array}
use Rattle.source_meaning.specs.Shapes.{
  Owner,
  Shared,
  Alone,
  Shape,
  IntShape,
  UnsignedShape,
  CharShape,
  VoidShape,
  ThinShape,
  FatShape,
  HandleShape,
  StructShape,
  UnionShape,
  ArrayShape,
}
use Rattle.source_meaning.specs.Shapes.{MayBeNull, NeverNull, Part, has_tag, parts_of, part_position, pointee, part_shapes}
use Rattle.source_meaning.specs.Memory.{Scalar, Wide}
use Rattle.source_meaning.specs.Steps.{Entity, Variable, Routine, World}
use Rattle.source_meaning.specs.Operators.{operator_shape}
use Rattle.source_meaning.specs.Places.{bound_to}
use Rattle.source_meaning.specs.Calls.{number_type, function_of}
use Rattle.source_meaning.specs.Programs.{integer_shape}
use Rattle.source_meaning.specs.Expressions.{is_unique_region}
pub use Rattle.source_lowering.specs.Naming.{Home, InBlock, Named, element_names, local_named}
pub use Rattle.source_lowering.specs.Members.{
  put,
  all_of,
  width_of,
  distance,
  loads_code,
  stores_code,
  words_in,
  null_check,
  check_code,
  bounds_code,
  tag_load,
  tag_store,
  held_loads,
  held_stores,
  raised,
  reached_code,
  element_code,
  reach_code,
  member_shape,
  valued,
  suffixed_shape,
  offset_code,
  Left,
  left_of,
  member_at,
  member_behind,
  element_at,
  pointer_to,
  store_to,
}
use Rattle.core_meaning.specs.Core.{Constant, LocalAddress, DataAddress, Get, Put, Getchar, Putchar, Statement, Do, Call}
pub use Rattle.source_lowering.specs.Operators.{
  narrow_code,
  to_fat_code,
  to_thin_code,
  thinned_code,
  conversion_code,
  type_of,
  applied_to,
  turned_code,
  compared_code,
  pointers_code,
  null_code,
  fat_code,
  operator_code,
  count_code,
  truth_code,
  word_code,
  not_code,
  prefix_code,
  pointed_code,
}

-- ---- names

-- the number of a function, from 0 on
abbrev pub number_of : List Routine → List ℕ → ℕ
number_of [] name = 0
number_of (f ∷ fs) name = (if bytes_eq f.name name then 0 else suc (number_of fs name))

-- ---- shapes, which are known without a run

abbrev pub entity_shape : Option Entity → Shape
entity_shape None = VoidShape
entity_shape (Some (Variable s at)) = s

abbrev pub shape_by : Option Named → Option Entity → Shape
shape_by (Some l) global = l.shape
shape_by None global = entity_shape global

-- a local's shape, or else a global's
abbrev pub named_shape : World → List Named → List ℕ → Shape
named_shape w names name = shape_by (local_named names name) (bound_to w.globals name)

abbrev pub result_shape : Option Routine → Shape
result_shape None = VoidShape
result_shape (Some f) = f.result

-- one of the two functions that every program has, a struct that is made, or a function
abbrev pub call_shape : World → List ℕ → Shape
call_shape w name =
    (if bytes_eq name (codes "getchar") then IntShape
    else (if bytes_eq name (codes "putchar") then IntShape
    else (if has_tag w.structs name then StructShape name else result_shape (function_of w.functions name))))

-- `S(..)`: the name is a struct's, and not that of a function that every program has
abbrev pub makes_struct : World → List ℕ → Bool
makes_struct w name =
    (if bytes_eq name (codes "getchar") then false else (if bytes_eq name (codes "putchar") then false else has_tag w.structs name))

abbrev pub is_made : World → Expression → Bool
is_made w (Expression.Call name arguments) = makes_struct w name.text
is_made w (Expression.MakeUnion tag member value) = true
is_made w (Expression.Grouped at inner) = is_made w inner
is_made w _ = false

abbrev pub prefix_shape : Prefix → Shape → Shape
prefix_shape prefix.Negate s = operator_shape operator.Subtract IntShape s
prefix_shape prefix.Complement s = operator_shape operator.BitXor IntShape s
prefix_shape prefix.Not s = IntShape
prefix_shape prefix.Dereference s = pointee s
prefix_shape prefix.AddressOf s = ThinShape (NeverNull 1) Shared s

-- what is made in the unique region, or in another one
abbrev pub owner_in : Bool → Owner
owner_in true = Alone
owner_in false = Shared

abbrev mutual
  -- the shape of an expression's type
  pub static_shape : World → List Named → Expression → Shape
  static_shape w names (Expression.Number at value suffix) = integer_shape (number_type value suffix)
  static_shape w names (Expression.Character at byte) = CharShape
  static_shape w names (Expression.Null at) = ThinShape (MayBeNull 1) Shared VoidShape
  static_shape w names (Expression.Variable name) = valued (named_shape w names name.text)
  static_shape w names (Expression.Call name arguments) = call_shape w name.text
  static_shape w names (Expression.MakeUnion tag member value) = UnionShape tag.text
  static_shape w names (Expression.Grouped at inner) = static_shape w names inner
  static_shape w names (Expression.Suffixed primary suffixes) = suffixed_shape w suffixes (static_shape w names primary)
  static_shape w names (Expression.Prefixed at operator operand) = prefix_shape operator (static_shape w names operand)
  static_shape w names (Expression.Chain first others) = linked_shape w names others (static_shape w names first)
  static_shape w names (Expression.AllOf first others) = IntShape
  static_shape w names (Expression.AnyOf first others) = IntShape
  static_shape w names (Expression.Assign place value) = static_shape w names place
  static_shape w names (Expression.HeapRegion at) = HandleShape
  static_shape w names (Expression.NumElts at operand) = UnsignedShape
  static_shape w names (Expression.Text at bytes) = FatShape CharShape
  static_shape w names (Expression.New at new) = new_shape w names Shared new
  static_shape w names (Expression.NewIn at handle new) = new_shape w names (owner_in (is_unique_region handle)) new
  static_shape w names _ = VoidShape

  -- a thin pointer to the one object that is made, and a fat one to the first of an array
  pub new_shape : World → List Named → Owner → Made → Shape
  new_shape w names owner (One value) = ThinShape (NeverNull 1) owner (static_shape w names value)
  new_shape w names owner (Array index count element) = FatShape (static_shape w (element_names index.text names) element)

  -- that of a chain, from what is on its left
  pub linked_shape : World → List Named → Links → Shape → Shape
  linked_shape w names NoLinks left = left
  linked_shape w names (MoreLinks operator operand others) left = linked_shape w names others (operator_shape operator left (static_shape w names operand))

-- ---- members of tagged unions

abbrev pub union_parts : World → Shape → List Part
union_parts w (UnionShape tag) = parts_of w.unions tag
union_parts w s = []

-- the number of a member, from 0 on
abbrev pub member_number : List Part → List ℕ → ℕ
member_number parts f = unwrap_or (part_position parts f) 0

-- ---- variables

-- a local is read: a word by one operation, a fat pointer part by part; an array's name is a fat pointer to its first element
abbrev pub get_local : Shape → (d out index : ℕ) → List Statement
get_local (ArrayShape count of) d out index = Do (LocalAddress d out index) ∷ bounds_code d count
get_local (FatShape to) d out index = Do (LocalAddress d out index) ∷ loads_code (FatShape to) d 0 0
get_local s d out index = Do (Get d out index (width_of s)) ∷ []

-- a global is read through its address
abbrev pub load_global : Shape → (d object : ℕ) → List Statement
load_global (ArrayShape count of) d object = Do (DataAddress d object) ∷ bounds_code d count
load_global s d object = Do (DataAddress d object) ∷ loads_code s d 0 0

-- the value in the temporaries from d on is stored in a local; a fat pointer's by its address, which comes into this temporary
abbrev pub stored_code : Shape → (address d out index : ℕ) → List Statement
stored_code (FatShape to) address d out index = Do (LocalAddress address out index) ∷ stores_code (FatShape to) address d 0 0
stored_code s address d out index = Do (Put out index (width_of s) d) ∷ []

-- its address comes behind its words
abbrev pub put_local : Shape → (d out index : ℕ) → List Statement
put_local s d out index = stored_code s (d + words_in s) d out index

abbrev pub store_global : Shape → (d object : ℕ) → List Statement
store_global s d object = Do (DataAddress (d + words_in s) object) ∷ stores_code s (d + words_in s) d 0 0

abbrev pub get_global : Option Entity → ℕ → List Statement
get_global (Some (Variable s at)) d = load_global s d at.object
get_global None d = []

-- what a name stands for is read
abbrev pub get_home : Shape → Home → ℕ → List Statement
get_home s (InBlock out index) d = get_local s d out index

abbrev pub get_by : Option Named → Option Entity → ℕ → List Statement
get_by (Some l) global d = get_home l.shape l.home d
get_by None global d = get_global global d

-- a variable is read
abbrev pub get_code : World → List Named → List ℕ → ℕ → List Statement
get_code w names name d = get_by (local_named names name) (bound_to w.globals name) d

abbrev pub put_global : Option Entity → ℕ → List Statement
put_global (Some (Variable s at)) d = store_global s d at.object
put_global None d = []

abbrev pub put_home : Shape → Home → ℕ → List Statement
put_home s (InBlock out index) d = put_local s d out index

abbrev pub put_by : Option Named → Option Entity → ℕ → List Statement
put_by (Some l) global d = put_home l.shape l.home d
put_by None global d = put_global global d

-- ---- places

abbrev pub global_address : Option Entity → ℕ → List Statement
global_address (Some (Variable s at)) d = Do (DataAddress d at.object) ∷ []
global_address None d = []

abbrev pub home_address : Home → ℕ → List Statement
home_address (InBlock out index) d = Do (LocalAddress d out index) ∷ []

-- a pointer to a variable
abbrev pub address_by : Option Named → Option Entity → ℕ → List Statement
address_by (Some l) global d = home_address l.home d
address_by None global d = global_address global d

-- ---- strings

-- a string's object, its bytes with the final 0, and the index 0, as the literal's value says
abbrev pub text_code : Option Scalar → ℕ → List Statement
text_code (Some (Wide (Some s))) d = Do (DataAddress d s.first.object) ∷ Do (Constant (d + 1) s.count) ∷ Do (Constant (d + 2) s.index) ∷ []
text_code _ d = []

-- ---- calls

abbrev pub parameter_shapes : Option Routine → List Shape
parameter_shapes None = []
parameter_shapes (Some f) = part_shapes f.parameters

abbrev pub call_parameters : World → List ℕ → List Shape
call_parameters w name =
    (if bytes_eq name (codes "getchar") then []
    else (if bytes_eq name (codes "putchar") then IntShape ∷ [] else parameter_shapes (function_of w.functions name)))

-- the given number of temporaries, from d on
abbrev pub from_on : ℕ → ℕ → List ℕ
from_on d zero = []
from_on d (suc n) = d ∷ from_on (d + 1) n

-- where a result goes
abbrev pub results_in : Shape → ℕ → List ℕ
results_in VoidShape d = []
results_in (FatShape to) d = d ∷ (d + 1) ∷ (d + 2) ∷ []
results_in s d = d ∷ []

-- how many words arguments take that go to parameters of these shapes
abbrev pub argument_words : List Shape → Expressions → ℕ
argument_words [] arguments = 0
argument_words (s ∷ ss) NoExpressions = 0
argument_words (s ∷ ss) (MoreExpressions first others) = words_in s + argument_words ss others

abbrev pub function_call : Option Routine → ℕ → ℕ → ℕ → List Statement
function_call None number count d = []
function_call (Some f) number count d = Call (results_in f.result d) number (from_on d count) ∷ []

-- `count` words are passed, from the temporary d on
abbrev pub call_code : World → List ℕ → ℕ → ℕ → List Statement
call_code w name count d =
    (if bytes_eq name (codes "getchar") then Do (Getchar d) ∷ []
    else (if bytes_eq name (codes "putchar") then Do (Putchar d d) ∷ [] else function_call (function_of w.functions name) (number_of w.functions name) count d))
