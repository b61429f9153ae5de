-- Believed: globals: their types, constants and sizes.
use Rattle.std.specs.Prelude.{Bool, List, None, Option, Some, false, length, map, nat_le, not, true, ℕ, ◌+◌, ◌&&◌, [], ◌∷◌, ◌++◌}
use Rattle.cyc_tree.specs.Tree.{Constant, Initial, Item}
use Rattle.source_meaning.specs.Shapes.{count_of as elements_of}
use Rattle.source_meaning.specs.Sizes.{rounded_up}
use Rattle.source_meaning.specs.Strings.{Literal, item_strings}
use Rattle.source_typing.specs.Declarations.{converted_to, fitting, what_after, what_of}
use Rattle.source_typing.specs.Expressions.{number_typed}
use Rattle.source_typing.specs.Extents.{most_static_bytes, variable_size}
use Rattle.source_typing.specs.Faults.{Fault, fault, size_rule, test, type_rule}
use Rattle.source_typing.specs.Operators.{string}
use Rattle.source_typing.specs.Regions.{TheHeap}
use Rattle.source_typing.specs.Scope.{Env, Value, value}
use Rattle.source_typing.specs.Tables.{Entry, OfValue, has_beginning}
use Rattle.source_typing.specs.Tags.{settled_alone}
use Rattle.source_typing.specs.Types.{Char, Null, StaticType, Thin, is_key}
use Rattle.source_typing.specs.Verdicts.{Of, Verdict, after, faults_of}
use Rattle.source_typing.specs.Written.{RegionNamed, Spot, spots_of, written}
use Rattle.cyc_tree.specs.Tree as tree

-- the value of a constant
abbrev pub constant : Constant → Verdict Value
constant (Constant.Number at n suffix) = value at (number_typed n suffix)
constant (Constant.Negative at n suffix) = value at (number_typed n suffix)
constant (Constant.Character at byte) = value at Char
constant (Constant.Text at bytes) = string at bytes
constant (Constant.Null at) = value at Null

-- The type of a global names no region but the heap and the unique one, else Type at the type. Such names stand for the heap here, so that they are no
-- faults of their own.
abbrev pub foreign_names : List Spot → List RegionNamed
foreign_names [] = []
foreign_names (s ∷ ss) = of_name s.written (foreign_names ss)
  where
    of_name : Option tree.RegionName → List RegionNamed → List RegionNamed
    of_name (Some (tree.Named n)) names = record { name = n.text; id = TheHeap } ∷ names
    of_name r names = names

abbrev pub has_none : {A : Type 0} → List A → Bool
has_none [] = true
has_none (x ∷ xs) = false

abbrev pub count_of : Initial → Option ℕ
count_of (Initial.Elements n) = Some n
count_of Initial.Unset = None
count_of (Initial.Given c) = None

-- A global is no key, and has a beginning also where it has an initializer.
abbrev pub fitting_global : Env → ℕ → Option ℕ → Bool → StaticType → Verdict StaticType
fitting_global g at count native t = fitting g at count (native && not (is_key t) && has_beginning g.tables t) t

abbrev pub global_type_by : Env → tree.Global → List RegionNamed → Verdict StaticType
global_type_by g x names =
    after (after (written g.tables names x.of) (settled_alone x.of.at)) (fitting_global g x.of.at (count_of x.initial) (has_none names))

abbrev pub global_type : Env → tree.Global → Verdict StaticType
global_type g x = global_type_by g x (foreign_names (spots_of g.tables x.of))

-- A thin pointer to a string has no greater bound than the string has elements: its bytes, and a 0 behind them. The bound of a string that is too long
-- isn't checked.
abbrev pub string_faults : Verdict Value → Constant → Verdict StaticType → List Fault
string_faults (Of v) (Constant.Text at bytes) (Of (Thin n r t)) = test (nat_le (elements_of n) (length bytes + 1)) type_rule at
string_faults v c t = []

-- A constant converts to its global's type.
abbrev pub initial_faults : Env → Initial → Verdict StaticType → List Fault
initial_faults g (Initial.Given c) t = (faults_of (constant c) ++ converted_to g (constant c) t) ++ string_faults (constant c) c t
initial_faults g Initial.Unset t = []
initial_faults g (Initial.Elements n) t = []

abbrev pub global_faults : Env → tree.Global → List Fault
global_faults g x = faults_of (global_type g x) ++ initial_faults g x.initial (global_type g x)

abbrev pub global_entry : Env → tree.Global → Entry
global_entry g x = OfValue (what_after (global_faults g x) (what_of TheHeap (count_of x.initial) (global_type g x)))

-- ---- sizes

-- how many bytes a global has; one that has a fault or isn't checked counts as nothing
abbrev pub typed_size : Env → tree.Global → Verdict StaticType → ℕ
typed_size g x (Of t) = variable_size g.tables (count_of x.initial) t
typed_size g x v = 0

abbrev pub if_clean : List Fault → ℕ → ℕ
if_clean [] n = n
if_clean (f ∷ fs) n = 0

abbrev pub global_size : Env → tree.Global → ℕ
global_size g x = if_clean (global_faults g x) (typed_size g x (global_type g x))

-- an object of the data: its place, and its bytes rounded up to 8
abbrev pub Static : Type 0
Static = ℕ × ℕ

abbrev pub static_string : Literal → Static
static_string (at, bytes) = (at, rounded_up (length bytes + 1) 8)

-- A global counts at its item's first token, before the string that initializes it.
abbrev pub item_statics : Env → Item → List Static
item_statics g (tree.GlobalItem x) = (x.of.at, rounded_up (global_size g x) 8) ∷ map static_string (item_strings (tree.GlobalItem x))
item_statics g (tree.FunctionItem f) = map static_string (item_strings (tree.FunctionItem f))
item_statics g (tree.StructItem s) = []
item_statics g (tree.UnionItem u) = []

-- The first one that passes the limit, with what stands before it, is Size at its place.
abbrev pub if_passed : Bool → ℕ → List Fault → List Fault
if_passed true at fs = fs
if_passed false at fs = fault size_rule at ∷ []

abbrev pub total_faults : ℕ → List Static → List Fault
total_faults so_far [] = []
total_faults so_far ((at, bytes) ∷ others) =
    if_passed (nat_le (so_far + bytes) most_static_bytes) at (total_faults (so_far + bytes) others)
