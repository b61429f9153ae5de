-- Believed, for this crate's laws: which names of a source's function may live in a register: those of an integer, a thin pointer, a handle or a key to which
-- `&` is never applied. The names are the parameters, the locals, those that a `case` gives to what it copies, and the indices of `for`.
use Rattle.std.specs.Prelude.{ℕ, suc, Bool, true, false, not, ◌||◌, ◌&&◌, if◌then◌else◌, Some, List, [], ◌∷◌, ◌++◌, bytes_eq, length}
use Rattle.cyc_tree.specs.declared.expression.Prefix.{Prefix}
use Rattle.cyc_tree.specs.declared.expression.Prefix.TheVariants as prefix
use Rattle.cyc_tree.specs.Tree as tree
use Rattle.cyc_tree.specs.Tree.{
  Expression,
  Expressions,
  NoExpressions,
  MoreExpressions,
  Links,
  NoLinks,
  MoreLinks,
  Suffixes,
  NoSuffixes,
  Index,
  Dot,
  Arrow,
  Made,
  One,
  Array,
  Initializer,
  Declaration,
  Statement,
  BlockItems,
  NoItems,
  Declare,
  Execute,
  Clauses,
  NoClauses,
  MoreClauses,
  Case,
  Default,
}
use Rattle.source_meaning.specs.Shapes.{Shape, IntShape, UnsignedShape, CharShape, ThinShape, HandleShape, KeyShape, Part, part_shape}
use Rattle.source_meaning.specs.Steps.{Routine, World}
use Rattle.source_lowering.specs.Lowered.{Named, static_shape, union_parts}
use Rattle.source_lowering.specs.Programs.{local_shape, named_here, names_behind, outward, parameter_names}

-- an integer, a thin pointer, a handle, or a key
abbrev pub is_word : Shape → Bool
is_word IntShape = true
is_word UnsignedShape = true
is_word CharShape = true
is_word (ThinShape bound owner to) = true
is_word HandleShape = true
is_word KeyShape = true
is_word s = false

-- ---- where `&` is applied to a name

-- the name, in parentheses too
abbrev pub is_name : (name : List ℕ) → Expression → Bool
is_name name (Expression.Variable x) = bytes_eq x.text name
is_name name (Expression.Grouped at inner) = is_name name inner
is_name name _ = false

abbrev pub is_address : Prefix → Bool
is_address prefix.AddressOf = true
is_address _ = false

-- Whether `&` is applied to the name of a variable that is in scope around a phrase. Where the phrase declares the name again, it stands for another variable
-- from there on.
abbrev mutual
  pub pointed : (name : List ℕ) → Expression → Bool
  pointed name (Expression.Call x arguments) = pointed_in_all name arguments
  pointed name (Expression.MakeUnion tag member value) = pointed name value
  pointed name (Expression.NumElts at operand) = pointed name operand
  pointed name (Expression.Grouped at inner) = pointed name inner
  pointed name (Expression.Suffixed primary suffixes) = pointed name primary || pointed_in_suffixes name suffixes
  pointed name (Expression.Prefixed at operator operand) = (is_address operator && is_name name operand) || pointed name operand
  pointed name (Expression.New at new) = pointed_in_made name new
  pointed name (Expression.NewIn at handle new) = pointed name handle || pointed_in_made name new
  pointed name (Expression.Chain first others) = pointed name first || pointed_in_links name others
  pointed name (Expression.AllOf first others) = pointed name first || pointed_in_all name others
  pointed name (Expression.AnyOf first others) = pointed name first || pointed_in_all name others
  pointed name (Expression.Assign place value) = pointed name place || pointed name value
  pointed name _ = false

  pub pointed_in_all : (name : List ℕ) → Expressions → Bool
  pointed_in_all name NoExpressions = false
  pointed_in_all name (MoreExpressions first others) = pointed name first || pointed_in_all name others

  pub pointed_in_links : (name : List ℕ) → Links → Bool
  pointed_in_links name NoLinks = false
  pointed_in_links name (MoreLinks operator operand others) = pointed name operand || pointed_in_links name others

  pub pointed_in_suffixes : (name : List ℕ) → Suffixes → Bool
  pointed_in_suffixes name NoSuffixes = false
  pointed_in_suffixes name (Index index others) = pointed name index || pointed_in_suffixes name others
  pointed_in_suffixes name (Dot f others) = pointed_in_suffixes name others
  pointed_in_suffixes name (Arrow f others) = pointed_in_suffixes name others

  -- the index is in scope in the elements, and not in their count
  pub pointed_in_made : (name : List ℕ) → Made → Bool
  pointed_in_made name (One value) = pointed name value
  pointed_in_made name (Array index count element) = pointed name count || (not (bytes_eq index.text name) && pointed name element)

abbrev pub pointed_in_declaration : (name : List ℕ) → Declaration → Bool
pointed_in_declaration name (tree.Local of x (Initializer.Value e)) = pointed name e
pointed_in_declaration name _ = false

abbrev mutual
  pub pointed_in : (name : List ℕ) → Statement → Bool
  pointed_in name (Statement.Block at items) = pointed_in_items name items
  pointed_in name (Statement.Run e) = pointed name e
  pointed_in name (Statement.Exchange left right) = pointed name left || pointed name right
  pointed_in name (Statement.If at condition body) = pointed name condition || pointed_in name body
  pointed_in name (Statement.IfElse at condition body otherwise) = pointed name condition || (pointed_in name body || pointed_in name otherwise)
  pointed_in name (Statement.While at condition body) = pointed name condition || pointed_in name body
  pointed_in name (Statement.Switch at place clauses) = pointed name place || pointed_in_clauses name clauses
  pointed_in name (Statement.Return at (Some e)) = pointed name e
  pointed_in name _ = false

  -- a local is in scope behind its declaration
  pub pointed_in_items : (name : List ℕ) → BlockItems → Bool
  pointed_in_items name NoItems = false
  pointed_in_items name (Declare d others) =
      pointed_in_declaration name d || (not (bytes_eq (tree.local_of d).text name) && pointed_in_items name others)
  pointed_in_items name (Execute s others) = pointed_in name s || pointed_in_items name others

  pub pointed_in_clauses : (name : List ℕ) → Clauses → Bool
  pointed_in_clauses name NoClauses = false
  pointed_in_clauses name (MoreClauses at (Case f x) body others) =
      (not (bytes_eq x.text name) && pointed_in_items name body) || pointed_in_clauses name others
  pointed_in_clauses name (MoreClauses at Default body others) = pointed_in_items name body || pointed_in_clauses name others

-- ---- the names that a phrase declares, in the order of the text: whether each may live in a register

-- by the shape of its type, and whether `&` is applied to it
abbrev pub may_live : Shape → (pointed : Bool) → Bool
may_live s p = is_word s && not p

abbrev mutual
  pub expression_names : Expression → List Bool
  expression_names (Expression.Call x arguments) = all_names arguments
  expression_names (Expression.MakeUnion tag member value) = expression_names value
  expression_names (Expression.NumElts at operand) = expression_names operand
  expression_names (Expression.Grouped at inner) = expression_names inner
  expression_names (Expression.Suffixed primary suffixes) = expression_names primary ++ suffix_names suffixes
  expression_names (Expression.Prefixed at operator operand) = expression_names operand
  expression_names (Expression.New at new) = made_names new
  expression_names (Expression.NewIn at handle new) = expression_names handle ++ made_names new
  expression_names (Expression.Chain first others) = expression_names first ++ link_names others
  expression_names (Expression.AllOf first others) = expression_names first ++ all_names others
  expression_names (Expression.AnyOf first others) = expression_names first ++ all_names others
  expression_names (Expression.Assign place value) = expression_names place ++ expression_names value
  expression_names _ = []

  pub all_names : Expressions → List Bool
  all_names NoExpressions = []
  all_names (MoreExpressions first others) = expression_names first ++ all_names others

  pub link_names : Links → List Bool
  link_names NoLinks = []
  link_names (MoreLinks operator operand others) = expression_names operand ++ link_names others

  pub suffix_names : Suffixes → List Bool
  suffix_names NoSuffixes = []
  suffix_names (Index index others) = expression_names index ++ suffix_names others
  suffix_names (Dot f others) = suffix_names others
  suffix_names (Arrow f others) = suffix_names others

  -- an index is an `unsigned int`
  pub made_names : Made → List Bool
  made_names (One value) = expression_names value
  made_names (Array index count element) =
      may_live UnsignedShape (pointed index.text element) ∷ (expression_names count ++ expression_names element)

abbrev pub declaration_names : Declaration → List Bool
declaration_names (tree.Local of x (Initializer.Value e)) = expression_names e
declaration_names _ = []

-- `names` are those around, by which the shapes of types are known
abbrev mutual
  pub statement_names : World → (names : List Named) → Statement → List Bool
  statement_names w names (Statement.Block at items) = item_names w (outward names) 0 items
  statement_names w names (Statement.Run e) = expression_names e
  statement_names w names (Statement.Exchange left right) = expression_names left ++ expression_names right
  statement_names w names (Statement.If at condition body) = expression_names condition ++ statement_names w names body
  statement_names w names (Statement.IfElse at condition body otherwise) =
      expression_names condition ++ (statement_names w names body ++ statement_names w names otherwise)
  statement_names w names (Statement.While at condition body) = expression_names condition ++ statement_names w names body
  statement_names w names (Statement.Switch at place clauses) =
      expression_names place ++ clause_names w names (union_parts w (static_shape w names place)) clauses
  statement_names w names (Statement.Return at (Some e)) = expression_names e
  statement_names w names _ = []

  -- the next local of the block has this number
  pub item_names : World → (names : List Named) → (index : ℕ) → BlockItems → List Bool
  item_names w names index NoItems = []
  item_names w names index (Declare d others) =
      may_live (local_shape w names d) (pointed_in_items (tree.local_of d).text others) ∷
      (declaration_names d ++ item_names w (names_behind w names index d) (suc index) others)
  item_names w names index (Execute s others) = statement_names w names s ++ item_names w names index others

  -- of the clauses of a `switch` on a union of these members
  pub clause_names : World → (names : List Named) → List Part → Clauses → List Bool
  clause_names w names parts NoClauses = []
  clause_names w names parts (MoreClauses at (Case f x) body others) =
      let s = part_shape parts f.text in
      may_live s (pointed_in_items x.text body) ∷
      (item_names w (named_here x.text s 0 ∷ outward names) 1 body ++ clause_names w names parts others)
  clause_names w names parts (MoreClauses at Default body others) =
      item_names w (outward names) 0 body ++ clause_names w names parts others

-- ---- functions

abbrev pub is_parameter : (name : List ℕ) → List Part → Bool
is_parameter name [] = false
is_parameter name (p ∷ ps) = bytes_eq p.name name || is_parameter name ps

-- a later parameter of the same name would hide an earlier one
abbrev pub parameter_flags : List Part → (body : BlockItems) → List Bool
parameter_flags [] body = []
parameter_flags (p ∷ ps) body = may_live p.shape (not (is_parameter p.name ps) && pointed_in_items p.name body) ∷ parameter_flags ps body

abbrev pub function_names : World → Routine → List Bool
function_names w f =
    parameter_flags f.parameters f.body ++ item_names w (parameter_names f.parameters 0 []) (length f.parameters) f.body

-- ---- registers

-- those that may live in one get these in turn, and all others 0, and so do those behind the last register
abbrev pub in_turn : List Bool → (registers : List ℕ) → List ℕ
in_turn [] rs = []
in_turn (false ∷ bs) rs = 0 ∷ in_turn bs rs
in_turn (true ∷ bs) [] = 0 ∷ in_turn bs []
in_turn (true ∷ bs) (r ∷ rs) = r ∷ in_turn bs rs
