-- There are as many flags of a phrase as names that it declares.
use Rattle.std.proofs.Common.{◌≡◌, ℕ, suc, ◌+◌, List, ◌∷◌, ◌++◌, length, Some, None, refl, arith, length-append}
use Rattle.cyc_tree.specs.Tree as tree
use Rattle.cyc_tree.specs.Tree.{
  Expression,
  Expressions,
  NoExpressions,
  MoreExpressions,
  Links,
  NoLinks,
  MoreLinks,
  Suffixes,
  NoSuffixes,
  Index,
  Dot,
  Arrow,
  Made,
  One,
  Array,
  Initializer,
  Declaration,
  Statement,
  BlockItems,
  NoItems,
  Declare,
  Execute,
  Clauses,
  NoClauses,
  MoreClauses,
  Case,
  Default,
}
use Rattle.source_meaning.specs.Shapes.{UnsignedShape, Part, part_shape}
use Rattle.source_meaning.specs.Steps.{World}
use Rattle.source_lowering.specs.Lowered.{Named, static_shape, union_parts}
use Rattle.source_lowering.specs.Programs.{named_here, names_behind, outward}
use Rattle.source_lowering.specs.Order.{
  indices_in,
  indices_in_all,
  indices_in_links,
  indices_in_suffixes,
  indices_in_made,
  indices_in_declaration,
  declared_here,
  declared_in,
  declared_within,
  declared_in_cases,
  declared_in_default,
}
use Rattle.home_proof.specs.Names.{may_live, pointed}
use Rattle.home_proof.specs.Numbered.{
  expression_flags,
  all_flags,
  link_flags,
  suffix_flags,
  made_flags,
  declaration_flags,
  here_flags,
  statement_flags,
  within_flags,
  case_flags,
  default_flags,
}

mutual
  pub many_flags : (e : Expression) → length (expression_flags e) ≡ indices_in e
  many_flags (Expression.Call x arguments) = many_in_all arguments
  many_flags (Expression.MakeUnion tag member value) = many_flags value
  many_flags (Expression.NumElts at operand) = many_flags operand
  many_flags (Expression.Grouped at inner) = many_flags inner
  many_flags (Expression.Suffixed primary suffixes) =
      let all = length-append (suffix_flags suffixes) (expression_flags primary) in
      let first = many_in_suffixes suffixes in
      let second = many_flags primary in
      omega (arith, all, first, second)
  many_flags (Expression.Prefixed at operator operand) = many_flags operand
  many_flags (Expression.New at new) = many_in_made new
  many_flags (Expression.NewIn at handle new) =
      let all = length-append (expression_flags handle) (made_flags new) in
      let first = many_flags handle in
      let second = many_in_made new in
      omega (arith, all, first, second)
  many_flags (Expression.Chain e others) =
      let all = length-append (expression_flags e) (link_flags others) in
      let first = many_flags e in
      let second = many_in_links others in
      omega (arith, all, first, second)
  many_flags (Expression.AllOf e others) =
      let all = length-append (expression_flags e) (all_flags others) in
      let first = many_flags e in
      let second = many_in_all others in
      omega (arith, all, first, second)
  many_flags (Expression.AnyOf e others) =
      let all = length-append (expression_flags e) (all_flags others) in
      let first = many_flags e in
      let second = many_in_all others in
      omega (arith, all, first, second)
  many_flags (Expression.Assign place value) =
      let all = length-append (expression_flags value) (expression_flags place) in
      let first = many_flags value in
      let second = many_flags place in
      omega (arith, all, first, second)
  many_flags _ = refl

  pub many_in_all : (es : Expressions) → length (all_flags es) ≡ indices_in_all es
  many_in_all NoExpressions = refl
  many_in_all (MoreExpressions e others) =
      let all = length-append (expression_flags e) (all_flags others) in
      let first = many_flags e in
      let second = many_in_all others in
      omega (arith, all, first, second)

  pub many_in_links : (ls : Links) → length (link_flags ls) ≡ indices_in_links ls
  many_in_links NoLinks = refl
  many_in_links (MoreLinks operator operand others) =
      let all = length-append (expression_flags operand) (link_flags others) in
      let first = many_flags operand in
      let second = many_in_links others in
      omega (arith, all, first, second)

  pub many_in_suffixes : (ss : Suffixes) → length (suffix_flags ss) ≡ indices_in_suffixes ss
  many_in_suffixes NoSuffixes = refl
  many_in_suffixes (Index index others) =
      let all = length-append (suffix_flags others) (expression_flags index) in
      let first = many_in_suffixes others in
      let second = many_flags index in
      omega (arith, all, first, second)
  many_in_suffixes (Dot f others) = many_in_suffixes others
  many_in_suffixes (Arrow f others) = many_in_suffixes others

  pub many_in_made : (m : Made) → length (made_flags m) ≡ indices_in_made m
  many_in_made (One value) = many_flags value
  many_in_made (Array index count element) =
      let all = length-append (expression_flags count) (may_live UnsignedShape (pointed index.text element) ∷ expression_flags element) in
      let first = many_flags count in
      let second = many_flags element in
      omega (arith, all, first, second)

pub many_in_declaration : (d : Declaration) → length (declaration_flags d) ≡ indices_in_declaration d
many_in_declaration (tree.Local of x (Initializer.Value e)) = many_flags e
many_in_declaration _ = refl

pub many_here : (w : World) (names : List Named) (index : ℕ) (items : BlockItems) → length (here_flags w names index items) ≡ declared_here items
many_here w names index NoItems = refl
many_here w names index (Declare d others) = let h = many_here w (names_behind w names index d) (suc index) others in omega (arith, h)
many_here w names index (Execute s others) = many_here w names index others

pub many_in_block : (w : World) (names : List Named) (index : ℕ) (items : BlockItems) → length (within_flags w names index items) ≡ declared_within items
    → length (here_flags w names index items ++ within_flags w names index items) ≡ declared_here items + declared_within items
many_in_block w names index items second =
    let all = length-append (here_flags w names index items) (within_flags w names index items) in
    let first = many_here w names index items in
    omega (arith, all, first, second)

mutual
  pub many_declared : (w : World) (names : List Named) (s : Statement) → length (statement_flags w names s) ≡ declared_in s
  many_declared w names (Statement.Block at items) = many_in_block w (outward names) 0 items (many_within w (outward names) 0 items)
  many_declared w names (Statement.Run e) = many_flags e
  many_declared w names (Statement.Exchange left right) =
      let all = length-append (expression_flags left) (expression_flags right) in
      let first = many_flags left in
      let second = many_flags right in
      omega (arith, all, first, second)
  many_declared w names (Statement.If at condition body) =
      let all = length-append (expression_flags condition) (statement_flags w names body) in
      let first = many_flags condition in
      let second = many_declared w names body in
      omega (arith, all, first, second)
  many_declared w names (Statement.IfElse at condition body otherwise) =
      let all = length-append (expression_flags condition) (statement_flags w names body ++ statement_flags w names otherwise) in
      let both = length-append (statement_flags w names body) (statement_flags w names otherwise) in
      let first = many_flags condition in
      let second = many_declared w names body in
      let third = many_declared w names otherwise in
      omega (arith, all, both, first, second, third)
  many_declared w names (Statement.While at condition body) =
      let all = length-append (expression_flags condition) (statement_flags w names body) in
      let first = many_flags condition in
      let second = many_declared w names body in
      omega (arith, all, first, second)
  many_declared w names (Statement.Switch at place clauses) =
      let parts : List Part = union_parts w (static_shape w names place) in
      let all = length-append (expression_flags place) (case_flags w names parts clauses ++ default_flags w names clauses) in
      let both = length-append (case_flags w names parts clauses) (default_flags w names clauses) in
      let first = many_flags place in
      let second = many_in_cases w names parts clauses in
      let third = many_in_default w names clauses in
      omega (arith, all, both, first, second, third)
  many_declared w names (Statement.Return at (Some e)) = many_flags e
  many_declared w names (Statement.Return at None) = refl
  many_declared w names _ = refl

  pub many_within : (w : World) (names : List Named) (index : ℕ) (items : BlockItems) → length (within_flags w names index items) ≡ declared_within items
  many_within w names index NoItems = refl
  many_within w names index (Declare d others) =
      let all = length-append (declaration_flags d) (within_flags w (names_behind w names index d) (suc index) others) in
      let first = many_in_declaration d in
      let second = many_within w (names_behind w names index d) (suc index) others in
      omega (arith, all, first, second)
  many_within w names index (Execute s others) =
      let all = length-append (statement_flags w names s) (within_flags w names index others) in
      let first = many_declared w names s in
      let second = many_within w names index others in
      omega (arith, all, first, second)

  pub many_in_cases : (w : World) (names : List Named) (parts : List Part) (cs : Clauses) → length (case_flags w names parts cs) ≡ declared_in_cases cs
  many_in_cases w names parts NoClauses = refl
  many_in_cases w names parts (MoreClauses at (Case f x) body others) =
      let inner = named_here x.text (part_shape parts f.text) 0 ∷ outward names in
      let clause = here_flags w inner 1 body ++ within_flags w inner 1 body in
      let all = length-append clause (case_flags w names parts others) in
      let first = many_in_block w inner 1 body (many_within w inner 1 body) in
      let second = many_in_cases w names parts others in
      omega (arith, all, first, second)
  many_in_cases w names parts (MoreClauses at Default body others) = many_in_cases w names parts others

  pub many_in_default : (w : World) (names : List Named) (cs : Clauses) → length (default_flags w names cs) ≡ declared_in_default cs
  many_in_default w names NoClauses = refl
  many_in_default w names (MoreClauses at (Case f x) body others) = many_in_default w names others
  many_in_default w names (MoreClauses at Default body others) = many_in_block w (outward names) 0 body (many_within w (outward names) 0 body)
