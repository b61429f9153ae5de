-- Believed: what statements, functions and programs are lowered to.
use Rattle.std.specs.Prelude.{ℕ, suc, ◌+◌, Bool, true, false, if◌then◌else◌, Some, None, List, [], ◌∷◌, ◌++◌, map, length, max, codes}
use Rattle.cyc_tree.specs.Tree as tree
use Rattle.cyc_tree.specs.Tree.{Expression, Initializer, Declaration, Statement, BlockItems, NoItems, Declare, Execute, Clauses, NoClauses, MoreClauses, Case}
use Rattle.cyc_tree.specs.Tree.{Default, Program}
use Rattle.source_meaning.specs.Shapes.{Shape, VoidShape, ThinShape, FatShape, HandleShape, KeyShape, StructShape, UnionShape, ArrayShape, Part, part_shape}
use Rattle.source_meaning.specs.Shapes.{part_shapes, written, settled, settled_by}
use Rattle.source_meaning.specs.Steps.{Routine, World}
use Rattle.source_meaning.specs.Programs.{world_of}
use Rattle.source_meaning.specs.Strings.{program_strings}
use Rattle.core_meaning.specs.Core as core
use Rattle.core_meaning.specs.Core.{
  Local,
  Operation,
  Do,
  If,
  While,
  Block,
  Leave,
  Break,
  Continue,
  Return,
  Statements,
  NoStatements,
  MoreStatements,
  Apply,
  Equal,
  Constant,
  NullPointer,
  LocalAddress,
  Put,
  Copy,
  Clear,
  RegionNew,
  RegionFree,
  UniqueFree,
  KeyNew,
  KeyOpen,
  KeyClose,
  KeyFree,
}
use Rattle.source_lowering.specs.Layouts.{layout_of, local_of}
pub use Rattle.source_lowering.specs.Naming.{named_here, further_out, one_out, outward}
use Rattle.source_lowering.specs.Order.{locals_order}
use Rattle.source_lowering.specs.Members.{words_in, all_words}
use Rattle.source_lowering.specs.Whole.{expression_values, is_made, run_code, run_values, whole_code, whole_values}
use Rattle.source_lowering.specs.Lowered.{
  Named,
  get_code,
  number_of,
  static_shape,
  all_of,
  width_of,
  stored_code,
  put_local,
  conversion_code,
  results_in,
  place_code,
}
use Rattle.source_lowering.specs.Lowered.{expression_code, union_parts, member_number, tag_load, held_loads}
pub use Rattle.source_lowering.specs.Temporaries.{last_of, operation_temporaries, statement_temporaries, temporaries_of, statement_passes, passed_by}
pub use Rattle.source_lowering.specs.Leaving.{RegionsAround, in_loop, in_switch, leaving_code, left_by, no_regions, opened_behind, regions_behind, regions_with}
pub use Rattle.source_lowering.specs.Exchanges.{
  Side,
  ByName,
  ByPlace,
  local_side,
  home_side,
  named_side,
  side_of,
  side_code,
  side_read,
  side_written,
  value_exchange,
  words_read,
  words_written,
  union_exchange,
  exchange_code,
}
pub use Rattle.source_lowering.specs.Data.{
  word_in,
  constant_word,
  span_content,
  text_content,
  constant_content,
  initial_content,
  datum_of,
  first_content,
  begun_datum,
  text_datum,
  global_datum,
  data_of,
  string_datum,
}

-- ---- locals of a block

-- an object's shape by the type that is written for it: where that leaves a region out, the type of its initializer has it
abbrev pub object_shape : World → List Named → Shape → Initializer → Shape
object_shape w names s Initializer.Unset = settled s
object_shape w names s (Initializer.Elements count) = settled s
object_shape w names s (Initializer.Value e) = settled_by s (static_shape w names e)

-- a local's shape, as it is declared
abbrev pub local_shape : World → List Named → Declaration → Shape
local_shape w names (tree.Local of name (Initializer.Elements count)) = ArrayShape count (settled (written of))
local_shape w names (tree.Local of name initializer) = object_shape w names (written of) initializer
local_shape w names (tree.Region at region handle) = HandleShape
local_shape w names (tree.Open at region handle key) = HandleShape
local_shape w names (tree.Alias at region of alias pointer) = settled_by (written of) (static_shape w names (Expression.Variable pointer))
local_shape w names (tree.NewKey at region key) = KeyShape

-- the names behind a declaration, whose local has this number
abbrev pub names_behind : World → List Named → ℕ → Declaration → List Named
names_behind w names index d = named_here (tree.local_of d).text (local_shape w names d) index ∷ names

-- the locals that a block declares itself, in their order; the next one has this number
abbrev pub block_shapes : World → List Named → ℕ → BlockItems → List Shape
block_shapes w names index NoItems = []
block_shapes w names index (Declare d others) = local_shape w names d ∷ block_shapes w (names_behind w names index d) (suc index) others
block_shapes w names index (Execute s others) = block_shapes w names index others

abbrev pub locals_of : World → List Shape → List Local
locals_of w shapes = map (local_of w) shapes

-- ---- declarations: the local of a number gets what it begins with, or its initializer's value, which comes into the first free temporaries

abbrev pub first_code : Shape → ℕ → Operation
first_code (ThinShape bound owner to) d = NullPointer d
first_code s d = Constant d 0

-- a local begins as its layout does, element by element
abbrev pub begun_code : World → Shape → (d index : ℕ) → List core.Statement
begun_code w s d index = Do (LocalAddress d 0 index) ∷ Do (Clear d (local_of w s).layout (local_of w s).count) ∷ []

-- so do a struct, a fat pointer and an array
abbrev pub unset_code : World → Shape → (d index : ℕ) → List core.Statement
unset_code w (StructShape tag) d index = begun_code w (StructShape tag) d index
unset_code w (FatShape to) d index = begun_code w (FatShape to) d index
unset_code w (ArrayShape count of) d index = begun_code w (ArrayShape count of) d index
unset_code w s d index = Do (first_code s d) ∷ Do (Put 0 index (width_of s) d) ∷ []

-- a pointer to what a struct or a tagged union begins as: to the object that its initializer names, or to the value that it makes
abbrev pub source_code : World → List Named → Bool → Expression → (d own : ℕ) → List core.Statement
source_code w names true e d own = whole_code w names e d own
source_code w names false e d own = place_code w names e d own

-- it gets the parts of that object
abbrev pub value_code : World → List Named → Shape → Expression → (d index own : ℕ) → List core.Statement
value_code w names (StructShape tag) e d index own =
    source_code w names (is_made w e) e d own ++ (Do (LocalAddress (d + 1) 0 index) ∷ Do (Copy (d + 1) d (layout_of w (StructShape tag))) ∷ [])
value_code w names (UnionShape tag) e d index own =
    source_code w names (is_made w e) e d own ++ (Do (LocalAddress (d + 1) 0 index) ∷ Do (Copy (d + 1) d (layout_of w (UnionShape tag))) ∷ [])
value_code w names s e d index own =
    expression_code w names e d own ++ (conversion_code w s (static_shape w names e) d ++ put_local s d 0 index)

-- the temporary objects of an initializer
abbrev pub initial_values : World → List Named → Shape → Expression → List Shape
initial_values w names (StructShape tag) e = (if is_made w e then whole_values w names e else expression_values w names e)
initial_values w names (UnionShape tag) e = (if is_made w e then whole_values w names e else expression_values w names e)
initial_values w names s e = expression_values w names e

-- A region is born; its handle stays in the first free temporary while the region is in scope, and goes to its local. A key opens its region, and stays in a
-- temporary likewise. A new key goes to its local. An alias begins as a local that is initialized with its pointer's name.
abbrev pub declaration_code : World → List Named → Declaration → (d index own : ℕ) → List core.Statement
declaration_code w names (tree.Local of name Initializer.Unset) d index own = unset_code w (settled (written of)) d index
declaration_code w names (tree.Local of name (Initializer.Elements count)) d index own =
    unset_code w (ArrayShape count (settled (written of))) d index
declaration_code w names (tree.Local of name (Initializer.Value e)) d index own =
    value_code w names (settled_by (written of) (static_shape w names e)) e d index own
declaration_code w names (tree.Region at region handle) d index own = Do (RegionNew d) ∷ Do (Put 0 index 4 d) ∷ []
declaration_code w names (tree.Open at region handle key) d index own = get_code w names key.text d ++ (Do (KeyOpen d) ∷ Do (Put 0 index 4 d) ∷ [])
declaration_code w names (tree.Alias at region of alias pointer) d index own =
    let pointer = Expression.Variable pointer in value_code w names (settled_by (written of) (static_shape w names pointer)) pointer d index own
declaration_code w names (tree.NewKey at region key) d index own = Do (KeyNew d) ∷ Do (Put 0 index 4 d) ∷ []

-- the region of a declaration is freed at the end of its block, or closed where a key opened it
abbrev pub ending_code : Declaration → ℕ → List core.Statement
ending_code (tree.Local of name initializer) d = []
ending_code (tree.Region at region handle) d = Do (RegionFree d) ∷ []
ending_code (tree.Open at region handle key) d = Do (KeyClose d) ∷ []
ending_code (tree.Alias at region of alias pointer) d = []
ending_code (tree.NewKey at region key) d = []

-- a unique pointer is freed, if it isn't NULL
abbrev pub unique_free : ℕ → List core.Statement
unique_free d = If d (all_of (Do (UniqueFree d) ∷ [])) NoStatements ∷ []

abbrev pub declaration_values : World → List Named → Declaration → List Shape
declaration_values w names (tree.Local of name (Initializer.Value e)) = initial_values w names (settled_by (written of) (static_shape w names e)) e
declaration_values w names _ = []

-- ---- temporary objects of statements, in the order of the text

abbrev mutual
  pub statement_values : World → List Named → Statement → List Shape
  statement_values w names (Statement.Block at items) = item_values w (outward names) 0 items
  statement_values w names (Statement.Run e) = run_values w names e
  statement_values w names (Statement.Exchange left right) = expression_values w names left ++ expression_values w names right
  statement_values w names (Statement.If at condition body) = expression_values w names condition ++ statement_values w names body
  statement_values w names (Statement.IfElse at condition body otherwise) =
      expression_values w names condition ++ (statement_values w names body ++ statement_values w names otherwise)
  statement_values w names (Statement.While at condition body) = expression_values w names condition ++ statement_values w names body
  statement_values w names (Statement.Switch at place clauses) =
      expression_values w names place ++ (case_values w names (union_parts w (static_shape w names place)) clauses ++ default_values w names clauses)
  statement_values w names (Statement.Return at (Some e)) = expression_values w names e
  statement_values w names _ = []

  -- the next local of the block has this number
  pub item_values : World → List Named → ℕ → BlockItems → List Shape
  item_values w names index NoItems = []
  item_values w names index (Declare d others) =
      declaration_values w names d ++ item_values w (names_behind w names index d) (suc index) others
  item_values w names index (Execute s others) = statement_values w names s ++ item_values w names index others

  -- of the clauses of a `switch` on a union of these members, and behind them those of the first `default`; the copy of a member is the first local of its
  -- clause
  pub case_values : World → List Named → List Part → Clauses → List Shape
  case_values w names parts NoClauses = []
  case_values w names parts (MoreClauses at (Case f x) body others) =
      item_values w (named_here x.text (part_shape parts f.text) 0 ∷ outward names) 1 body ++ case_values w names parts others
  case_values w names parts (MoreClauses at Default body others) = case_values w names parts others

  pub default_values : World → List Named → Clauses → List Shape
  default_values w names NoClauses = []
  default_values w names (MoreClauses at (Case f x) body others) = default_values w names others
  default_values w names (MoreClauses at Default body others) = item_values w (outward names) 0 body

-- ---- statements

abbrev mutual
  -- The first of its temporary objects has this number. `break` and `continue` leave the regions in scope within what they leave, and `return` those of the
  -- function,
  -- when the result is there.
  pub statement_code : World → Shape → List Named → RegionsAround → (own : ℕ) → Statement → List core.Statement
  statement_code w result names h own (Statement.Empty at) = []
  statement_code w result names h own (Statement.Block at items) =
      Block (locals_of w (block_shapes w (outward names) 0 items)) (all_of (items_code w result (outward names) h 0 own items)) ∷ []
  statement_code w result names h own (Statement.Run e) = run_code w names e h.all own
  -- the left place comes first
  statement_code w result names h own (Statement.Exchange left right) =
      let a = side_of names left in
      let b = side_of names right in
      side_code a (place_code w names left h.all own) ++
      (side_code b (place_code w names right (h.all + 1) (own + length (expression_values w names left))) ++
      exchange_code w a b (static_shape w names left) h.all)
  statement_code w result names h own (Statement.If at condition body) =
      expression_code w names condition h.all own ++
      (If h.all (all_of (statement_code w result names h (own + length (expression_values w names condition)) body)) NoStatements ∷ [])
  statement_code w result names h own (Statement.IfElse at condition body otherwise) =
      let first = own + length (expression_values w names condition) in
      expression_code w names condition h.all own ++
      (If h.all (all_of (statement_code w result names h first body))
      (all_of (statement_code w result names h (first + length (statement_values w names body)) otherwise)) ∷ [])
  statement_code w result names h own (Statement.While at condition body) =
      While (all_of (expression_code w names condition h.all own)) h.all
      (all_of (statement_code w result names (in_loop h) (own + length (expression_values w names condition)) body)) ∷ []
  -- A pointer to the union comes into the first free temporary, and its tag into the next one.
  statement_code w result names h own (Statement.Switch at place clauses) =
      let first = own + length (expression_values w names place) in
      let parts = union_parts w (static_shape w names place) in
      Leave (all_of (place_code w names place h.all own ++ (tag_load (h.all + 1) h.all ++
      (cases_code w result names (in_switch h) parts first clauses ++
      default_code w result names (in_switch h) (first + length (case_values w names parts clauses)) clauses)))) ∷ []
  statement_code w result names h own (Statement.Break at) = leaving_code h.opened h.all h.broken ++ (Break ∷ [])
  statement_code w result names h own (Statement.Continue at) = leaving_code h.opened h.all h.continued ++ (Continue ∷ [])
  statement_code w result names h own (Statement.Return at None) = leaving_code h.opened h.all h.all ++ (Return [] ∷ [])
  statement_code w result names h own (Statement.Return at (Some e)) =
      expression_code w names e h.all own ++
      (conversion_code w result (static_shape w names e) h.all ++ (leaving_code h.opened h.all h.all ++ (Return (results_in result h.all) ∷ [])))
  statement_code w result names h own (Statement.FreeKey at key) = get_code w names key.text h.all ++ (Do (KeyFree h.all) ∷ [])
  statement_code w result names h own (Statement.FreeUnique at pointer) = get_code w names pointer.text h.all ++ unique_free h.all

  -- the items of a block; the next local has the first number, and the next temporary object the second
  pub items_code : World → Shape → List Named → RegionsAround → (index own : ℕ) → BlockItems → List core.Statement
  items_code w result names h index own NoItems = []
  items_code w result names h index own (Declare d others) =
      declaration_code w names d h.all index own ++
      (items_code w result (names_behind w names index d) (regions_with d h) (suc index)
      (own + length (declaration_values w names d)) others ++ ending_code d h.all)
  items_code w result names h index own (Execute s others) =
      statement_code w result names h own s ++ items_code w result names h index (own + length (statement_values w names s)) others

  -- The clauses of a `switch` on a union of these members, one after the other: where the tag is the number of its member, the member is copied to the clause's
  -- first local, its statements are done, and the `switch` is left. The pointer to the union and the tag are in the first free temporaries.
  pub cases_code : World → Shape → List Named → RegionsAround → List Part → (own : ℕ) → Clauses → List core.Statement
  cases_code w result names h parts own NoClauses = []
  cases_code w result names h parts own (MoreClauses at (Case f x) body others) =
      let s = part_shape parts f.text in
      let inner = named_here x.text s 0 ∷ outward names in
      Do (Constant (h.all + 2) (member_number parts f.text)) ∷ Do (Apply Equal (h.all + 2) (h.all + 1) (h.all + 2)) ∷
      If (h.all + 2)
      (all_of (Block (locals_of w (s ∷ block_shapes w inner 1 body))
      (all_of (held_loads s h.all ++ (put_local s h.all 0 0 ++ items_code w result inner h 1 own body))) ∷
      Break ∷ [])) NoStatements ∷
      cases_code w result names h parts (own + length (item_values w inner 1 body)) others
  cases_code w result names h parts own (MoreClauses at Default body others) = cases_code w result names h parts own others

  -- the first `default` among them, behind all others
  pub default_code : World → Shape → List Named → RegionsAround → (own : ℕ) → Clauses → List core.Statement
  default_code w result names h own NoClauses = []
  default_code w result names h own (MoreClauses at (Case f x) body others) = default_code w result names h own others
  default_code w result names h own (MoreClauses at Default body others) =
      Block (locals_of w (block_shapes w (outward names) 0 body)) (all_of (items_code w result (outward names) h 0 own body)) ∷ []

-- ---- functions

-- the parameters are the first locals of the body's block, the last one innermost; their values are in the first temporaries
abbrev pub parameter_names : List Part → ℕ → List Named → List Named
parameter_names [] index names = names
parameter_names (p ∷ ps) index names = parameter_names ps (suc index) (named_here p.name p.shape index ∷ names)

-- Each parameter's value is stored in its local; the next one's words are the first of these, and one temporary is free behind all of them.
abbrev pub parameters_code : List Part → (index t free : ℕ) → List core.Statement
parameters_code [] index t free = []
parameters_code (p ∷ ps) index t free = stored_code p.shape free t 0 index ++ parameters_code ps (suc index) (t + words_in p.shape) free

-- the end of a function without `return`: `main` gives 0 there
abbrev pub end_code : Shape → List core.Statement
end_code VoidShape = Return [] ∷ []
end_code s = Do (Constant 0 0) ∷ Return (0 ∷ []) ∷ []

abbrev pub body_code : World → Routine → Statements
body_code w f =
    MoreStatements
    (Block (locals_of w (part_shapes f.parameters ++ block_shapes w (parameter_names f.parameters 0 []) (length f.parameters) f.body))
    (all_of (parameters_code f.parameters 0 0 (all_words (part_shapes f.parameters)) ++
    items_code w f.result (parameter_names f.parameters 0 []) no_regions (length f.parameters) 0 f.body)))
    (all_of (end_code f.result))

-- the structs that a function makes or reads whole, its temporary objects
abbrev pub routine_values : World → Routine → List Shape
routine_values w f = item_values w (parameter_names f.parameters 0 []) (length f.parameters) f.body

abbrev pub function_code : World → Routine → core.Function
function_code w f = record {
  parameters = all_words (part_shapes f.parameters);
  temporaries = max (all_words (part_shapes f.parameters)) (temporaries_of (body_code w f));
  passed = passed_by (body_code w f);
  own = locals_of w (routine_values w f);
  order = locals_order f;
  body = body_code w f;
}

-- ---- programs

abbrev pub program_code : Program → core.Program
program_code p = record {
  functions = map (function_code (world_of p)) (world_of p).functions;
  main = number_of (world_of p).functions (codes "main");
  data_objects = data_of (world_of p) p ++ map (string_datum (world_of p)) (program_strings p);
}
