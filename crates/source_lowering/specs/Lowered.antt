-- Believed: what an expression is lowered to. It leaves its value in the temporaries from a number on, a word in one and a fat pointer in three, and uses no
-- earlier ones. A struct or a tagged union that is made, or read whole, is a temporary object of its function, and its code leaves a pointer to it in the
-- first. Temporary objects are numbered in the order of the evaluation: from the left, but for an assigned value, which comes before its place, and each before
-- those of its parts.
use Rattle.std.specs.Prelude.{ℕ, suc, ◌+◌, ◌%◌, Bool, true, false, List, [], ◌∷◌, ◌++◌, length}
use Rattle.cyc_tree.specs.Tree.{Expression, Expressions, NoExpressions, MoreExpressions, Links, NoLinks, MoreLinks, Suffixes, NoSuffixes, Index, Dot, Arrow}
use Rattle.cyc_tree.specs.Tree.{Made, One, Array}
use Rattle.source_meaning.specs.Shapes.{Shape, UnsignedShape, StructShape, UnionShape, Part, parts_of, part_shape}
use Rattle.source_meaning.specs.Sizes.{rounded_up}
use Rattle.source_meaning.specs.Steps.{World}
use Rattle.source_meaning.specs.Operators.{operator_shape}
use Rattle.source_meaning.specs.Places.{bound_to, string_at}
use Rattle.source_meaning.specs.Conversions.{cells_of}
use Rattle.source_meaning.specs.Expressions.{is_unique_region}
use Rattle.core_meaning.specs.Core.{Add, Apply, Block, Constant, Copy, Do, Element, HeapHandle, If, LessUnsigned, NoStatements, NullPointer, Offset, OwnAddress}
use Rattle.core_meaning.specs.Core.{Put, RegionAlloc, Statement, UniqueAlloc, While}
use Rattle.source_lowering.specs.Layouts.{extent_of, layout_of, local_of}
use Rattle.source_lowering.specs.Members.{words_in}
pub use Rattle.source_lowering.specs.Pieces.{
  put,
  all_of,
  width_of,
  distance,
  null_check,
  check_code,
  reach_code,
  loads_code,
  stores_code,
  tag_load,
  tag_store,
  held_loads,
  held_stores,
  member_shape,
  valued,
  suffixed_shape,
  offset_code,
  Left,
  left_of,
  member_at,
  member_behind,
  element_at,
  pointer_to,
  store_to,
  Home,
  InBlock,
  Named,
  element_names,
  local_named,
  number_of,
  entity_shape,
  shape_by,
  named_shape,
  result_shape,
  call_shape,
  makes_struct,
  is_made,
  union_parts,
  member_number,
  prefix_shape,
  static_shape,
  new_shape,
  owner_in,
  linked_shape,
  stored_code,
  get_local,
  load_global,
  put_local,
  store_global,
  get_global,
  get_home,
  get_by,
  get_code,
  put_global,
  put_home,
  put_by,
  global_address,
  home_address,
  address_by,
  narrow_code,
  to_fat_code,
  to_thin_code,
  thinned_code,
  conversion_code,
  type_of,
  applied_to,
  turned_code,
  compared_code,
  pointers_code,
  operator_code,
  null_code,
  fat_code,
  count_code,
  text_code,
  truth_code,
  word_code,
  not_code,
  prefix_code,
  pointed_code,
  parameter_shapes,
  call_parameters,
  from_on,
  results_in,
  argument_words,
  function_call,
  call_code,
}

-- ---- temporary objects

-- those of a value of a shape: as a struct or a tagged union, or else as an operand
abbrev pub values_by : Shape → (whole word : List Shape) → List Shape
values_by (StructShape tag) whole word = whole
values_by (UnionShape tag) whole word = whole
values_by s whole word = word

abbrev mutual
  -- those of an expression, whether its value or its place is wanted
  pub expression_values : World → List Named → Expression → List Shape
  expression_values w names (Expression.Call name arguments) = all_values w names arguments
  expression_values w names (Expression.Grouped at inner) = expression_values w names inner
  expression_values w names (Expression.Suffixed primary suffixes) = suffix_values w names suffixes ++ expression_values w names primary
  expression_values w names (Expression.NumElts at operand) = expression_values w names operand
  expression_values w names (Expression.Prefixed at operator operand) = expression_values w names operand
  expression_values w names (Expression.New at new) = new_values w names new
  expression_values w names (Expression.NewIn at handle new) = expression_values w names handle ++ new_values w names new
  expression_values w names (Expression.Chain first others) = expression_values w names first ++ link_values w names others
  expression_values w names (Expression.AllOf first others) = expression_values w names first ++ all_values w names others
  expression_values w names (Expression.AnyOf first others) = expression_values w names first ++ all_values w names others
  expression_values w names (Expression.Assign place value) = expression_values w names value ++ expression_values w names place
  expression_values w names _ = []

  -- the last index is evaluated first
  pub suffix_values : World → List Named → Suffixes → List Shape
  suffix_values w names NoSuffixes = []
  suffix_values w names (Index index others) = suffix_values w names others ++ expression_values w names index
  suffix_values w names (Dot f others) = suffix_values w names others
  suffix_values w names (Arrow f others) = suffix_values w names others

  pub all_values : World → List Named → Expressions → List Shape
  all_values w names NoExpressions = []
  all_values w names (MoreExpressions first others) = expression_values w names first ++ all_values w names others

  pub link_values : World → List Named → Links → List Shape
  link_values w names NoLinks = []
  link_values w names (MoreLinks operator operand others) = expression_values w names operand ++ link_values w names others

  -- of what `new` and `rnew` make
  pub new_values : World → List Named → Made → List Shape
  new_values w names (One value) = values_by (static_shape w names value) (whole_values w names value) (expression_values w names value)
  new_values w names (Array index count element) =
      let inner = element_names index.text names in
      expression_values w names count ++ values_by (static_shape w inner element) (whole_values w inner element) (expression_values w inner element)

  -- of a struct or a tagged union: its own, and then those of its parts, or of the place that it is read from
  pub whole_values : World → List Named → Expression → List Shape
  whole_values w names (Expression.Call name arguments) = StructShape name.text ∷ made_values w names (parts_of w.structs name.text) arguments
  whole_values w names (Expression.MakeUnion tag member value) = UnionShape tag.text ∷ expression_values w names value
  whole_values w names (Expression.Grouped at inner) = whole_values w names inner
  whole_values w names (Expression.Suffixed primary suffixes) =
      static_shape w names (Expression.Suffixed primary suffixes) ∷ (suffix_values w names suffixes ++ expression_values w names primary)
  whole_values w names (Expression.Prefixed at operator operand) =
      static_shape w names (Expression.Prefixed at operator operand) ∷ expression_values w names operand
  whole_values w names e = static_shape w names e ∷ []

  pub made_values : World → List Named → List Part → Expressions → List Shape
  made_values w names [] arguments = []
  made_values w names (p ∷ ps) NoExpressions = []
  made_values w names (p ∷ ps) (MoreExpressions first others) =
      values_by p.shape (whole_values w names first) (expression_values w names first) ++ made_values w names ps others

-- ---- pieces of code with structs and tagged unions

-- a place is copied to a temporary object, from the pointer in the same temporary
abbrev pub copied_code : World → Shape → (d own : ℕ) → List Statement
copied_code w s d own = Do (OwnAddress (d + 1) own) ∷ Do (Copy (d + 1) d (layout_of w s)) ∷ Do (OwnAddress d own) ∷ []

-- A member that is a struct or a tagged union is copied so far on, from the pointer in the next temporary; another one is converted, and stored there.
abbrev pub struct_member_code : World → Shape → (d cells bytes : ℕ) → List Statement
struct_member_code w s d cells bytes = Do (Offset (d + 2) d cells bytes) ∷ Do (Copy (d + 2) (d + 1) (layout_of w s)) ∷ []

abbrev pub word_member_code : World → Shape → Shape → (d cells bytes : ℕ) → List Statement
word_member_code w s from d cells bytes = conversion_code w s from (d + 1) ++ stores_code s d (d + 1) cells bytes

-- a member of a shape, by the code of its argument as a whole and as an operand
abbrev pub member_code : World → Shape → Shape → (d cells bytes : ℕ) → (whole word : List Statement) → List Statement
member_code w (StructShape tag) from d cells bytes whole word = whole ++ struct_member_code w (StructShape tag) d cells bytes
member_code w (UnionShape tag) from d cells bytes whole word = whole ++ struct_member_code w (UnionShape tag) d cells bytes
member_code w s from d cells bytes whole word = word ++ word_member_code w s from d cells bytes

-- A block for one object is asked for, a unique one, or one in the region of the handle in this temporary, which gets a pointer to it; the count 1 comes into
-- another one.
abbrev pub request_code : World → (unique : Bool) → Shape → (d count : ℕ) → List Statement
request_code w true s d count = Do (UniqueAlloc d (layout_of w s)) ∷ []
request_code w false s d count = Do (Constant count 1) ∷ Do (RegionAlloc d d count (layout_of w s)) ∷ []

-- The value of a shape comes into the next temporaries, or a pointer to it; then the block is asked for, and the value is stored there.
abbrev pub new_code_by : World → (unique : Bool) → Shape → ℕ → (whole word : List Statement) → List Statement
new_code_by w unique (StructShape tag) d whole word =
    whole ++ (request_code w unique (StructShape tag) d (d + 2) ++ (Do (Copy d (d + 1) (layout_of w (StructShape tag))) ∷ []))
new_code_by w unique (UnionShape tag) d whole word =
    whole ++ (request_code w unique (UnionShape tag) d (d + 2) ++ (Do (Copy d (d + 1) (layout_of w (UnionShape tag))) ∷ []))
new_code_by w unique s d whole word = word ++ (request_code w unique s d (d + 1 + words_in s) ++ stores_code s d (d + 1) 0 0)

-- An element's value comes into the temporaries behind the array's pointer, its count and the element's number, or a pointer to it does. Then it is stored
-- where
-- the element lies.
abbrev pub element_by : World → Shape → ℕ → (whole word : List Statement) → List Statement
element_by w (StructShape tag) d whole word =
    whole ++ (Do (Element (d + 4) d (d + 2) (length (cells_of w (StructShape tag))) (extent_of w (StructShape tag)).size) ∷
    Do (Copy (d + 4) (d + 3) (layout_of w (StructShape tag))) ∷ [])
element_by w (UnionShape tag) d whole word =
    whole ++ (Do (Element (d + 4) d (d + 2) (length (cells_of w (UnionShape tag))) (extent_of w (UnionShape tag)).size) ∷
    Do (Copy (d + 4) (d + 3) (layout_of w (UnionShape tag))) ∷ [])
element_by w s d whole word =
    word ++ (Do (Element (d + 3 + words_in s) d (d + 2) (length (cells_of w s)) (extent_of w s).size) ∷ stores_code s (d + 3 + words_in s) (d + 3) 0 0)

-- the number of the next element
abbrev pub next_number : ℕ → List Statement
next_number d = Do (Constant (d + 3) 1) ∷ Do (Apply Add (d + 2) (d + 2) (d + 3)) ∷ []

-- each element in its turn, by its number, which the index gets first
abbrev pub elements_code : ℕ → (each : List Statement) → List Statement
elements_code d each =
    While (all_of (Do (Apply LessUnsigned (d + 3) (d + 2) (d + 1)) ∷ [])) (d + 3)
    (all_of (Do (Put 0 0 (width_of UnsignedShape) (d + 2)) ∷ (each ++ next_number d))) ∷ []

-- The index begins with 0, and then come the elements, in a block whose only local it is.
abbrev pub indexed_code : World → ℕ → (each : List Statement) → List Statement
indexed_code w d each =
    Block (local_of w UnsignedShape ∷ []) (all_of (Do (Constant (d + 2) 0) ∷ Do (Put 0 0 (width_of UnsignedShape) (d + 2)) ∷ elements_code d each)) ∷ []

-- A block for objects, whose number is in the next temporary, is asked for in the region of the handle in this one, which gets a pointer to it. After the
-- elements the index of that pointer is 0.
abbrev pub array_code : World → Shape → ℕ → (each : List Statement) → List Statement
array_code w s d each = Do (RegionAlloc d d (d + 1) (layout_of w s)) ∷ (indexed_code w d each ++ (Do (Constant (d + 2) 0) ∷ []))

-- A tagged union to which this temporary points holds the member of a number and a shape then: its value, of another shape as yet, is in the next temporaries,
-- and is converted, and the tag is set through the one behind them.
abbrev pub union_code : World → Shape → Shape → ℕ → ℕ → List Statement
union_code w s from number d = conversion_code w s from (d + 1) ++ (tag_store d (d + 1 + words_in s) number ++ held_stores s d (d + 1))

-- ---- expressions

-- the first temporary object has the number `own`
abbrev mutual
  pub expression_code : World → List Named → Expression → (d own : ℕ) → List Statement
  expression_code w names (Expression.Number at value suffix) d own = Do (Constant d value) ∷ []
  expression_code w names (Expression.Character at byte) d own = Do (Constant d (byte % 256)) ∷ []
  expression_code w names (Expression.Null at) d own = Do (NullPointer d) ∷ []
  expression_code w names (Expression.HeapRegion at) d own = Do (HeapHandle d) ∷ []
  expression_code w names (Expression.Variable name) d own = get_code w names name.text d
  expression_code w names (Expression.Call name arguments) d own =
      arguments_code w names (call_parameters w name.text) arguments d own ++ call_code w name.text (argument_words (call_parameters w name.text) arguments) d
  expression_code w names (Expression.Grouped at inner) d own = expression_code w names inner d own
  expression_code w names (Expression.Text at bytes) d own = text_code (string_at w.strings at) d
  expression_code w names (Expression.NumElts at operand) d own = expression_code w names operand d own ++ count_code d
  expression_code w names (Expression.Suffixed primary suffixes) d own =
      let first = own + length (suffix_values w names suffixes) in
      (suffixed_code w names suffixes
      (left_of (static_shape w names primary) (λ e. expression_code w names primary e first) (λ e. place_code w names primary e first)) own).value d
  expression_code w names (Expression.Prefixed at operator operand) d own =
      prefix_code w operator (static_shape w names operand) d (expression_code w names operand (d + 1) own) (expression_code w names operand d own)
      (place_code w names operand d own)
  -- the heap's handle comes first
  expression_code w names (Expression.New at new) d own = Do (HeapHandle d) ∷ new_code w names false new d own
  expression_code w names (Expression.NewIn at handle new) d own =
      expression_code w names handle d own ++ new_code w names (is_unique_region handle) new d (own + length (expression_values w names handle))
  expression_code w names (Expression.Chain first others) d own =
      expression_code w names first d own ++
      links_code w names others (static_shape w names first) d (own + length (expression_values w names first))
  expression_code w names (Expression.AllOf first others) d own =
      (expression_code w names first d own ++ word_code (static_shape w names first) d) ++
      (all_code w names others d (own + length (expression_values w names first)) ++ truth_code d)
  expression_code w names (Expression.AnyOf first others) d own =
      (expression_code w names first d own ++ word_code (static_shape w names first) d) ++
      (any_code w names others d (own + length (expression_values w names first)) ++ truth_code d)
  -- the value is evaluated first
  expression_code w names (Expression.Assign place value) d own =
      expression_code w names value d own ++
      (conversion_code w (static_shape w names place) (static_shape w names value) d ++
      put_code w names place d (own + length (expression_values w names value)))
  expression_code w names _ d own = []

  -- a pointer to the place that an expression names
  pub place_code : World → List Named → Expression → (d own : ℕ) → List Statement
  place_code w names (Expression.Variable name) d own = address_by (local_named names name.text) (bound_to w.globals name.text) d
  place_code w names (Expression.Grouped at inner) d own = place_code w names inner d own
  place_code w names (Expression.Suffixed primary suffixes) d own =
      let first = own + length (suffix_values w names suffixes) in
      pointer_to (suffixed_code w names suffixes
      (left_of (static_shape w names primary) (λ e. expression_code w names primary e first) (λ e. place_code w names primary e first)) own) d
  place_code w names (Expression.Prefixed at operator operand) d own =
      pointed_code w operator (static_shape w names operand) d (expression_code w names operand d own)
  place_code w names _ d own = []

  -- the value is stored: a variable is written by its name, and another place through its pointer, behind the value
  pub put_code : World → List Named → Expression → (d own : ℕ) → List Statement
  put_code w names (Expression.Variable name) d own = put_by (local_named names name.text) (bound_to w.globals name.text) d
  put_code w names (Expression.Grouped at inner) d own = put_code w names inner d own
  put_code w names (Expression.Suffixed primary suffixes) d own =
      let first = own + length (suffix_values w names suffixes) in
      store_to (suffixed_code w names suffixes
      (left_of (static_shape w names primary) (λ e. expression_code w names primary e first) (λ e. place_code w names primary e first)) own)
      (d + words_in (suffixed_shape w suffixes (static_shape w names primary))) d
  put_code w names (Expression.Prefixed at operator operand) d own =
      let s = prefix_shape operator (static_shape w names operand) in let p = d + words_in s in
      pointed_code w operator (static_shape w names operand) p (expression_code w names operand p own) ++ stores_code s p d 0 0
  put_code w names _ d own = []

  -- suffixes, from the left: `e.f` is a distance further on from where e is, `e->f` from where e's value leads, and `e[i]` as many elements as i says
  pub suffixed_code : World → List Named → Suffixes → Left → (own : ℕ) → Left
  suffixed_code w names NoSuffixes left own = left
  suffixed_code w names (Index index others) left own =
      let first = own + length (suffix_values w names others) in
      suffixed_code w names others (element_at w left.shape (λ d. expression_code w names index d first) left.value) own
  suffixed_code w names (Dot f others) left own =
      suffixed_code w names others (member_at w left.shape left.pointer left.cells left.bytes f.text) own
  suffixed_code w names (Arrow f others) left own = suffixed_code w names others (member_behind w left f.text) own

  -- each operand goes into the temporaries behind what stands on its left, and the result into the chain's
  pub links_code : World → List Named → Links → Shape → (d own : ℕ) → List Statement
  links_code w names NoLinks left d own = []
  links_code w names (MoreLinks operator operand others) left d own =
      expression_code w names operand (d + words_in left) own ++
      (operator_code operator left (static_shape w names operand) d ++
      links_code w names others (operator_shape operator left (static_shape w names operand)) d (own + length (expression_values w names operand)))

  -- of `&&`: each operand is evaluated where those before it were not 0
  pub all_code : World → List Named → Expressions → (d own : ℕ) → List Statement
  all_code w names NoExpressions d own = []
  all_code w names (MoreExpressions first others) d own =
      If d (all_of (expression_code w names first d own ++ word_code (static_shape w names first) d)) NoStatements ∷
      all_code w names others d (own + length (expression_values w names first))

  -- of `||`: each operand is evaluated where those before it were 0
  pub any_code : World → List Named → Expressions → (d own : ℕ) → List Statement
  any_code w names NoExpressions d own = []
  any_code w names (MoreExpressions first others) d own =
      If d NoStatements (all_of (expression_code w names first d own ++ word_code (static_shape w names first) d)) ∷
      any_code w names others d (own + length (expression_values w names first))

  -- each argument is converted to its parameter's shape, and the next one comes behind it
  pub arguments_code : World → List Named → List Shape → Expressions → (d own : ℕ) → List Statement
  arguments_code w names [] arguments d own = []
  arguments_code w names (s ∷ ss) NoExpressions d own = []
  arguments_code w names (s ∷ ss) (MoreExpressions first others) d own =
      expression_code w names first d own ++
      (conversion_code w s (static_shape w names first) d ++ arguments_code w names ss others (d + words_in s) (own + length (expression_values w names first)))

  -- what is made, in the region whose handle is in this temporary, or in the unique region
  pub new_code : World → List Named → (unique : Bool) → Made → (d own : ℕ) → List Statement
  new_code w names unique (One value) d own =
      new_code_by w unique (static_shape w names value) d (whole_code w names value (d + 1) own) (expression_code w names value (d + 1) own)
  new_code w names unique (Array index count element) d own =
      let inner = element_names index.text names in
      let first = own + length (expression_values w names count) in
      expression_code w names count (d + 1) own ++
      array_code w (static_shape w inner element) d
      (element_by w (static_shape w inner element) d (whole_code w inner element (d + 3) first) (expression_code w inner element (d + 3) first))

  -- a struct made of its members, a tagged union made of one, or either copied from a place
  pub whole_code : World → List Named → Expression → (d own : ℕ) → List Statement
  whole_code w names (Expression.Call name arguments) d own =
      Do (OwnAddress d own) ∷ members_code w names (parts_of w.structs name.text) arguments d 0 0 (suc own)
  whole_code w names (Expression.MakeUnion tag member value) d own =
      let parts = parts_of w.unions tag.text in
      Do (OwnAddress d own) ∷ (expression_code w names value (d + 1) (suc own) ++
      union_code w (part_shape parts member.text) (static_shape w names value) (member_number parts member.text) d)
  whole_code w names (Expression.Grouped at inner) d own = whole_code w names inner d own
  whole_code w names (Expression.Variable name) d own =
      address_by (local_named names name.text) (bound_to w.globals name.text) d ++
      copied_code w (static_shape w names (Expression.Variable name)) d own
  whole_code w names (Expression.Suffixed primary suffixes) d own =
      let first = suc own + length (suffix_values w names suffixes) in
      pointer_to (suffixed_code w names suffixes
      (left_of (static_shape w names primary) (λ e. expression_code w names primary e first) (λ e. place_code w names primary e first)) (suc own)) d ++
      copied_code w (static_shape w names (Expression.Suffixed primary suffixes)) d own
  whole_code w names (Expression.Prefixed at operator operand) d own =
      pointed_code w operator (static_shape w names operand) d (expression_code w names operand d (suc own)) ++
      copied_code w (static_shape w names (Expression.Prefixed at operator operand)) d own
  whole_code w names e d own = copied_code w (static_shape w names e) d own

  -- each argument goes where its member lies: `cells` cells and `bytes` bytes on, aligned
  pub members_code : World → List Named → List Part → Expressions → (d cells bytes own : ℕ) → List Statement
  members_code w names [] arguments d cells bytes own = []
  members_code w names (p ∷ ps) NoExpressions d cells bytes own = []
  members_code w names (p ∷ ps) (MoreExpressions first others) d cells bytes own =
      let at = rounded_up bytes (extent_of w p.shape).align in
      member_code w p.shape (static_shape w names first) d cells at (whole_code w names first (d + 1) own) (expression_code w names first (d + 1) own) ++
      members_code w names ps others d (cells + length (cells_of w p.shape)) (at + (extent_of w p.shape).size)
      (own + length (values_by p.shape (whole_values w names first) (expression_values w names first)))
