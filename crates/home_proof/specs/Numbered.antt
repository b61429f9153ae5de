-- Believed, for this crate's laws: whether the locals of a function's Core may live in registers, by their numbers, as specs/Names says it of the names that
-- they are of: those of a block come before those of blocks within it, those of the `default` of a `switch` behind those of its other clauses, and else they
-- come as the code does.
use Rattle.std.specs.Prelude.{ℕ, suc, Bool, Some, List, [], ◌∷◌, ◌++◌, length}
use Rattle.cyc_tree.specs.Tree as tree
use Rattle.cyc_tree.specs.Tree.{
  Expression,
  Expressions,
  NoExpressions,
  MoreExpressions,
  Links,
  NoLinks,
  MoreLinks,
  Suffixes,
  NoSuffixes,
  Index,
  Dot,
  Arrow,
  Made,
  One,
  Array,
  Initializer,
  Declaration,
  Statement,
  BlockItems,
  NoItems,
  Declare,
  Execute,
  Clauses,
  NoClauses,
  MoreClauses,
  Case,
  Default,
}
use Rattle.source_meaning.specs.Shapes.{UnsignedShape, Part, part_shape}
use Rattle.source_meaning.specs.Steps.{Routine, World}
use Rattle.source_lowering.specs.Lowered.{Named, static_shape, union_parts}
use Rattle.source_lowering.specs.Programs.{local_shape, named_here, names_behind, outward, parameter_names}
use Rattle.home_proof.specs.Names.{may_live, parameter_flags, pointed, pointed_in_items}

-- ---- expressions

abbrev mutual
  pub expression_flags : Expression → List Bool
  expression_flags (Expression.Call x arguments) = all_flags arguments
  expression_flags (Expression.MakeUnion tag member value) = expression_flags value
  expression_flags (Expression.NumElts at operand) = expression_flags operand
  expression_flags (Expression.Grouped at inner) = expression_flags inner
  -- the last index is evaluated first
  expression_flags (Expression.Suffixed primary suffixes) = suffix_flags suffixes ++ expression_flags primary
  expression_flags (Expression.Prefixed at operator operand) = expression_flags operand
  expression_flags (Expression.New at new) = made_flags new
  expression_flags (Expression.NewIn at handle new) = expression_flags handle ++ made_flags new
  expression_flags (Expression.Chain first others) = expression_flags first ++ link_flags others
  expression_flags (Expression.AllOf first others) = expression_flags first ++ all_flags others
  expression_flags (Expression.AnyOf first others) = expression_flags first ++ all_flags others
  expression_flags (Expression.Assign place value) = expression_flags value ++ expression_flags place
  expression_flags _ = []

  pub all_flags : Expressions → List Bool
  all_flags NoExpressions = []
  all_flags (MoreExpressions first others) = expression_flags first ++ all_flags others

  pub link_flags : Links → List Bool
  link_flags NoLinks = []
  link_flags (MoreLinks operator operand others) = expression_flags operand ++ link_flags others

  pub suffix_flags : Suffixes → List Bool
  suffix_flags NoSuffixes = []
  suffix_flags (Index index others) = suffix_flags others ++ expression_flags index
  suffix_flags (Dot f others) = suffix_flags others
  suffix_flags (Arrow f others) = suffix_flags others

  pub made_flags : Made → List Bool
  made_flags (One value) = expression_flags value
  made_flags (Array index count element) =
      expression_flags count ++ (may_live UnsignedShape (pointed index.text element) ∷ expression_flags element)

abbrev pub declaration_flags : Declaration → List Bool
declaration_flags (tree.Local of x (Initializer.Value e)) = expression_flags e
declaration_flags _ = []

-- ---- statements

-- the locals that a block declares itself; the next one has this number
abbrev pub here_flags : World → (names : List Named) → (index : ℕ) → BlockItems → List Bool
here_flags w names index NoItems = []
here_flags w names index (Declare d others) =
    may_live (local_shape w names d) (pointed_in_items (tree.local_of d).text others) ∷ here_flags w (names_behind w names index d) (suc index) others
here_flags w names index (Execute s others) = here_flags w names index others

abbrev mutual
  pub statement_flags : World → (names : List Named) → Statement → List Bool
  statement_flags w names (Statement.Block at items) = here_flags w (outward names) 0 items ++ within_flags w (outward names) 0 items
  statement_flags w names (Statement.Run e) = expression_flags e
  statement_flags w names (Statement.Exchange left right) = expression_flags left ++ expression_flags right
  statement_flags w names (Statement.If at condition body) = expression_flags condition ++ statement_flags w names body
  statement_flags w names (Statement.IfElse at condition body otherwise) =
      expression_flags condition ++ (statement_flags w names body ++ statement_flags w names otherwise)
  statement_flags w names (Statement.While at condition body) = expression_flags condition ++ statement_flags w names body
  statement_flags w names (Statement.Switch at place clauses) =
      expression_flags place ++ (case_flags w names (union_parts w (static_shape w names place)) clauses ++ default_flags w names clauses)
  statement_flags w names (Statement.Return at (Some e)) = expression_flags e
  statement_flags w names _ = []

  -- those of the expressions and blocks in a block
  pub within_flags : World → (names : List Named) → (index : ℕ) → BlockItems → List Bool
  within_flags w names index NoItems = []
  within_flags w names index (Declare d others) = declaration_flags d ++ within_flags w (names_behind w names index d) (suc index) others
  within_flags w names index (Execute s others) = statement_flags w names s ++ within_flags w names index others

  -- of the clauses that name one of these members
  pub case_flags : World → (names : List Named) → List Part → Clauses → List Bool
  case_flags w names parts NoClauses = []
  case_flags w names parts (MoreClauses at (Case f x) body others) =
      let s = part_shape parts f.text in
      let inner = named_here x.text s 0 ∷ outward names in
      (may_live s (pointed_in_items x.text body) ∷ (here_flags w inner 1 body ++ within_flags w inner 1 body)) ++ case_flags w names parts others
  case_flags w names parts (MoreClauses at Default body others) = case_flags w names parts others

  -- of the first `default`
  pub default_flags : World → (names : List Named) → Clauses → List Bool
  default_flags w names NoClauses = []
  default_flags w names (MoreClauses at (Case f x) body others) = default_flags w names others
  default_flags w names (MoreClauses at Default body others) = here_flags w (outward names) 0 body ++ within_flags w (outward names) 0 body

-- ---- functions

abbrev pub function_flags : World → Routine → List Bool
function_flags w f =
    let names = parameter_names f.parameters 0 [] in
    let index = length f.parameters in
    (parameter_flags f.parameters f.body ++ here_flags w names index f.body) ++ within_flags w names index f.body
