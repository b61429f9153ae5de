-- View of code: how a pure tree is told apart from others: a map of each of its types to numbers and pairs, one to one. The toolchain asks for it where a value
-- that contracts see is a tree; no contract speaks of it. Each form is its number, and then its parts.
use Rattle.std.specs.Prelude.{◌≡◌, ℕ, List, Option, refl}
use Rattle.std.proofs.Common.{ap}
use base.Stored.{Gv, gnil, gnum, gcons}
use Rattle.std.specs.Coded.{Coded, code_by, coded×, coded_ℕ, coded_bool, coded_list, coded_option}
use Rattle.cyc_tree.specs.StoredNames.{head, tail, apart, coded_operator, coded_prefix, coded_name, coded_region_name, coded_type_name}
use Rattle.cyc_tree.specs.Tree.{Name, RegionName, TypeName, Expression, Expressions, Links, Suffixes, Made, Initializer, Declaration, Pattern, Statement}
use Rattle.cyc_tree.specs.Tree.{BlockItems, Clauses, Member, Structure, Constant, Initial, Global, Bound, Function, Item, Program}

abbrev mutual
  pub expression_code : Expression → Gv
  expression_code (Expression.Number x1 x2 x3) = gcons (gnum 0) (gcons (coded_ℕ.code x1) (gcons (coded_ℕ.code x2) (coded_bool.code x3)))
  expression_code (Expression.Character x1 x2) = gcons (gnum 1) (gcons (coded_ℕ.code x1) (coded_ℕ.code x2))
  expression_code (Expression.Text x1 x2) = gcons (gnum 2) (gcons (coded_ℕ.code x1) ((coded_list coded_ℕ).code x2))
  expression_code (Expression.Null x1) = gcons (gnum 3) (coded_ℕ.code x1)
  expression_code (Expression.HeapRegion x1) = gcons (gnum 4) (coded_ℕ.code x1)
  expression_code (Expression.UniqueRegion x1) = gcons (gnum 5) (coded_ℕ.code x1)
  expression_code (Expression.Variable x1) = gcons (gnum 6) (coded_name.code x1)
  expression_code (Expression.Call x1 x2) = gcons (gnum 7) (gcons (coded_name.code x1) (expressions_code x2))
  expression_code (Expression.MakeUnion x1 x2 x3) = gcons (gnum 8) (gcons (coded_name.code x1) (gcons (coded_name.code x2) (expression_code x3)))
  expression_code (Expression.NumElts x1 x2) = gcons (gnum 9) (gcons (coded_ℕ.code x1) (expression_code x2))
  expression_code (Expression.Grouped x1 x2) = gcons (gnum 10) (gcons (coded_ℕ.code x1) (expression_code x2))
  expression_code (Expression.Suffixed x1 x2) = gcons (gnum 11) (gcons (expression_code x1) (suffixes_code x2))
  expression_code (Expression.Prefixed x1 x2 x3) = gcons (gnum 12) (gcons (coded_ℕ.code x1) (gcons (coded_prefix.code x2) (expression_code x3)))
  expression_code (Expression.New x1 x2) = gcons (gnum 13) (gcons (coded_ℕ.code x1) (made_code x2))
  expression_code (Expression.NewIn x1 x2 x3) = gcons (gnum 14) (gcons (coded_ℕ.code x1) (gcons (expression_code x2) (made_code x3)))
  expression_code (Expression.Chain x1 x2) = gcons (gnum 15) (gcons (expression_code x1) (links_code x2))
  expression_code (Expression.AllOf x1 x2) = gcons (gnum 16) (gcons (expression_code x1) (expressions_code x2))
  expression_code (Expression.AnyOf x1 x2) = gcons (gnum 17) (gcons (expression_code x1) (expressions_code x2))
  expression_code (Expression.Assign x1 x2) = gcons (gnum 18) (gcons (expression_code x1) (expression_code x2))

  pub expressions_code : Expressions → Gv
  expressions_code Expressions.NoExpressions = gcons (gnum 0) gnil
  expressions_code (Expressions.MoreExpressions x1 x2) = gcons (gnum 1) (gcons (expression_code x1) (expressions_code x2))

  pub links_code : Links → Gv
  links_code Links.NoLinks = gcons (gnum 0) gnil
  links_code (Links.MoreLinks x1 x2 x3) = gcons (gnum 1) (gcons (coded_operator.code x1) (gcons (expression_code x2) (links_code x3)))

  pub suffixes_code : Suffixes → Gv
  suffixes_code Suffixes.NoSuffixes = gcons (gnum 0) gnil
  suffixes_code (Suffixes.Index x1 x2) = gcons (gnum 1) (gcons (expression_code x1) (suffixes_code x2))
  suffixes_code (Suffixes.Dot x1 x2) = gcons (gnum 2) (gcons (coded_name.code x1) (suffixes_code x2))
  suffixes_code (Suffixes.Arrow x1 x2) = gcons (gnum 3) (gcons (coded_name.code x1) (suffixes_code x2))

  pub made_code : Made → Gv
  made_code (Made.One x1) = gcons (gnum 0) (expression_code x1)
  made_code (Made.Array x1 x2 x3) = gcons (gnum 1) (gcons (coded_name.code x1) (gcons (expression_code x2) (expression_code x3)))

mutual
  pub expression_inj : (x y : Expression) → expression_code x ≡ expression_code y → x ≡ y
  expression_inj (Expression.Number x1 x2 x3) (Expression.Number y1 y2 y3) p = λ i. Expression.Number (coded_ℕ.inj x1 y1 (ap (λ g. head (tail g)) p) i)
      (coded_ℕ.inj x2 y2 (ap (λ g. head (tail (tail g))) p) i) (coded_bool.inj x3 y3 (ap (λ g. tail (tail (tail g))) p) i)
  expression_inj (Expression.Character x1 x2) (Expression.Character y1 y2) p = λ i. Expression.Character (coded_ℕ.inj x1 y1 (ap (λ g. head (tail g)) p) i)
      (coded_ℕ.inj x2 y2 (ap (λ g. tail (tail g)) p) i)
  expression_inj (Expression.Text x1 x2) (Expression.Text y1 y2) p = λ i. Expression.Text (coded_ℕ.inj x1 y1 (ap (λ g. head (tail g)) p) i)
      ((coded_list coded_ℕ).inj x2 y2 (ap (λ g. tail (tail g)) p) i)
  expression_inj (Expression.Null x1) (Expression.Null y1) p = λ i. Expression.Null (coded_ℕ.inj x1 y1 (ap (λ g. tail g) p) i)
  expression_inj (Expression.HeapRegion x1) (Expression.HeapRegion y1) p = λ i. Expression.HeapRegion (coded_ℕ.inj x1 y1 (ap (λ g. tail g) p) i)
  expression_inj (Expression.UniqueRegion x1) (Expression.UniqueRegion y1) p = λ i. Expression.UniqueRegion (coded_ℕ.inj x1 y1 (ap (λ g. tail g) p) i)
  expression_inj (Expression.Variable x1) (Expression.Variable y1) p = λ i. Expression.Variable (coded_name.inj x1 y1 (ap (λ g. tail g) p) i)
  expression_inj (Expression.Call x1 x2) (Expression.Call y1 y2) p = λ i. Expression.Call (coded_name.inj x1 y1 (ap (λ g. head (tail g)) p) i)
      (expressions_inj x2 y2 (ap (λ g. tail (tail g)) p) i)
  expression_inj (Expression.MakeUnion x1 x2 x3) (Expression.MakeUnion y1 y2 y3) p = λ i.
      Expression.MakeUnion (coded_name.inj x1 y1 (ap (λ g. head (tail g)) p) i) (coded_name.inj x2 y2 (ap (λ g. head (tail (tail g))) p) i)
      (expression_inj x3 y3 (ap (λ g. tail (tail (tail g))) p) i)
  expression_inj (Expression.NumElts x1 x2) (Expression.NumElts y1 y2) p = λ i. Expression.NumElts (coded_ℕ.inj x1 y1 (ap (λ g. head (tail g)) p) i)
      (expression_inj x2 y2 (ap (λ g. tail (tail g)) p) i)
  expression_inj (Expression.Grouped x1 x2) (Expression.Grouped y1 y2) p = λ i. Expression.Grouped (coded_ℕ.inj x1 y1 (ap (λ g. head (tail g)) p) i)
      (expression_inj x2 y2 (ap (λ g. tail (tail g)) p) i)
  expression_inj (Expression.Suffixed x1 x2) (Expression.Suffixed y1 y2) p = λ i. Expression.Suffixed (expression_inj x1 y1 (ap (λ g. head (tail g)) p) i)
      (suffixes_inj x2 y2 (ap (λ g. tail (tail g)) p) i)
  expression_inj (Expression.Prefixed x1 x2 x3) (Expression.Prefixed y1 y2 y3) p = λ i. Expression.Prefixed (coded_ℕ.inj x1 y1 (ap (λ g. head (tail g)) p) i)
      (coded_prefix.inj x2 y2 (ap (λ g. head (tail (tail g))) p) i) (expression_inj x3 y3 (ap (λ g. tail (tail (tail g))) p) i)
  expression_inj (Expression.New x1 x2) (Expression.New y1 y2) p = λ i. Expression.New (coded_ℕ.inj x1 y1 (ap (λ g. head (tail g)) p) i)
      (made_inj x2 y2 (ap (λ g. tail (tail g)) p) i)
  expression_inj (Expression.NewIn x1 x2 x3) (Expression.NewIn y1 y2 y3) p = λ i. Expression.NewIn (coded_ℕ.inj x1 y1 (ap (λ g. head (tail g)) p) i)
      (expression_inj x2 y2 (ap (λ g. head (tail (tail g))) p) i) (made_inj x3 y3 (ap (λ g. tail (tail (tail g))) p) i)
  expression_inj (Expression.Chain x1 x2) (Expression.Chain y1 y2) p = λ i. Expression.Chain (expression_inj x1 y1 (ap (λ g. head (tail g)) p) i)
      (links_inj x2 y2 (ap (λ g. tail (tail g)) p) i)
  expression_inj (Expression.AllOf x1 x2) (Expression.AllOf y1 y2) p = λ i. Expression.AllOf (expression_inj x1 y1 (ap (λ g. head (tail g)) p) i)
      (expressions_inj x2 y2 (ap (λ g. tail (tail g)) p) i)
  expression_inj (Expression.AnyOf x1 x2) (Expression.AnyOf y1 y2) p = λ i. Expression.AnyOf (expression_inj x1 y1 (ap (λ g. head (tail g)) p) i)
      (expressions_inj x2 y2 (ap (λ g. tail (tail g)) p) i)
  expression_inj (Expression.Assign x1 x2) (Expression.Assign y1 y2) p = λ i. Expression.Assign (expression_inj x1 y1 (ap (λ g. head (tail g)) p) i)
      (expression_inj x2 y2 (ap (λ g. tail (tail g)) p) i)
  expression_inj x y p = apart (expression_code x) (expression_code y) p refl

  pub expressions_inj : (x y : Expressions) → expressions_code x ≡ expressions_code y → x ≡ y
  expressions_inj Expressions.NoExpressions Expressions.NoExpressions p = refl
  expressions_inj (Expressions.MoreExpressions x1 x2) (Expressions.MoreExpressions y1 y2) p = λ i.
      Expressions.MoreExpressions (expression_inj x1 y1 (ap (λ g. head (tail g)) p) i) (expressions_inj x2 y2 (ap (λ g. tail (tail g)) p) i)
  expressions_inj x y p = apart (expressions_code x) (expressions_code y) p refl

  pub links_inj : (x y : Links) → links_code x ≡ links_code y → x ≡ y
  links_inj Links.NoLinks Links.NoLinks p = refl
  links_inj (Links.MoreLinks x1 x2 x3) (Links.MoreLinks y1 y2 y3) p = λ i. Links.MoreLinks (coded_operator.inj x1 y1 (ap (λ g. head (tail g)) p) i)
      (expression_inj x2 y2 (ap (λ g. head (tail (tail g))) p) i) (links_inj x3 y3 (ap (λ g. tail (tail (tail g))) p) i)
  links_inj x y p = apart (links_code x) (links_code y) p refl

  pub suffixes_inj : (x y : Suffixes) → suffixes_code x ≡ suffixes_code y → x ≡ y
  suffixes_inj Suffixes.NoSuffixes Suffixes.NoSuffixes p = refl
  suffixes_inj (Suffixes.Index x1 x2) (Suffixes.Index y1 y2) p = λ i. Suffixes.Index (expression_inj x1 y1 (ap (λ g. head (tail g)) p) i)
      (suffixes_inj x2 y2 (ap (λ g. tail (tail g)) p) i)
  suffixes_inj (Suffixes.Dot x1 x2) (Suffixes.Dot y1 y2) p = λ i. Suffixes.Dot (coded_name.inj x1 y1 (ap (λ g. head (tail g)) p) i)
      (suffixes_inj x2 y2 (ap (λ g. tail (tail g)) p) i)
  suffixes_inj (Suffixes.Arrow x1 x2) (Suffixes.Arrow y1 y2) p = λ i. Suffixes.Arrow (coded_name.inj x1 y1 (ap (λ g. head (tail g)) p) i)
      (suffixes_inj x2 y2 (ap (λ g. tail (tail g)) p) i)
  suffixes_inj x y p = apart (suffixes_code x) (suffixes_code y) p refl

  pub made_inj : (x y : Made) → made_code x ≡ made_code y → x ≡ y
  made_inj (Made.One x1) (Made.One y1) p = λ i. Made.One (expression_inj x1 y1 (ap (λ g. tail g) p) i)
  made_inj (Made.Array x1 x2 x3) (Made.Array y1 y2 y3) p = λ i. Made.Array (coded_name.inj x1 y1 (ap (λ g. head (tail g)) p) i)
      (expression_inj x2 y2 (ap (λ g. head (tail (tail g))) p) i) (expression_inj x3 y3 (ap (λ g. tail (tail (tail g))) p) i)
  made_inj x y p = apart (made_code x) (made_code y) p refl

abbrev pub coded_expression : Coded Expression
coded_expression = record { code = expression_code; inj = expression_inj }

abbrev pub coded_expressions : Coded Expressions
coded_expressions = record { code = expressions_code; inj = expressions_inj }

abbrev pub coded_links : Coded Links
coded_links = record { code = links_code; inj = links_inj }

abbrev pub coded_suffixes : Coded Suffixes
coded_suffixes = record { code = suffixes_code; inj = suffixes_inj }

abbrev pub coded_made : Coded Made
coded_made = record { code = made_code; inj = made_inj }

abbrev pub initializer_code : Initializer → Gv
initializer_code Initializer.Unset = gcons (gnum 0) gnil
initializer_code (Initializer.Elements x1) = gcons (gnum 1) (coded_ℕ.code x1)
initializer_code (Initializer.Value x1) = gcons (gnum 2) (coded_expression.code x1)

pub initializer_inj : (x y : Initializer) → initializer_code x ≡ initializer_code y → x ≡ y
initializer_inj Initializer.Unset Initializer.Unset p = refl
initializer_inj (Initializer.Elements x1) (Initializer.Elements y1) p = λ i. Initializer.Elements (coded_ℕ.inj x1 y1 (ap (λ g. tail g) p) i)
initializer_inj (Initializer.Value x1) (Initializer.Value y1) p = λ i. Initializer.Value (coded_expression.inj x1 y1 (ap (λ g. tail g) p) i)
initializer_inj x y p = apart (initializer_code x) (initializer_code y) p refl

abbrev pub coded_initializer : Coded Initializer
coded_initializer = record { code = initializer_code; inj = initializer_inj }

abbrev pub declaration_code : Declaration → Gv
declaration_code (Declaration.Local x1 x2 x3) = gcons (gnum 0) (gcons (coded_type_name.code x1) (gcons (coded_name.code x2) (coded_initializer.code x3)))
declaration_code (Declaration.Region x1 x2 x3) = gcons (gnum 1) (gcons (coded_ℕ.code x1) (gcons (coded_region_name.code x2) (coded_name.code x3)))
declaration_code (Declaration.Open x1 x2 x3 x4) =
    gcons (gnum 2) (gcons (coded_ℕ.code x1) (gcons (coded_region_name.code x2) (gcons (coded_name.code x3) (coded_name.code x4))))
declaration_code (Declaration.Alias x1 x2 x3 x4 x5) =
    gcons (gnum 3) (gcons (coded_ℕ.code x1)
    (gcons (coded_region_name.code x2) (gcons (coded_type_name.code x3) (gcons (coded_name.code x4) (coded_name.code x5)))))
declaration_code (Declaration.NewKey x1 x2 x3) = gcons (gnum 4) (gcons (coded_ℕ.code x1) (gcons (coded_region_name.code x2) (coded_name.code x3)))

pub declaration_inj : (x y : Declaration) → declaration_code x ≡ declaration_code y → x ≡ y
declaration_inj (Declaration.Local x1 x2 x3) (Declaration.Local y1 y2 y3) p = λ i. Declaration.Local (coded_type_name.inj x1 y1 (ap (λ g. head (tail g)) p) i)
    (coded_name.inj x2 y2 (ap (λ g. head (tail (tail g))) p) i) (coded_initializer.inj x3 y3 (ap (λ g. tail (tail (tail g))) p) i)
declaration_inj (Declaration.Region x1 x2 x3) (Declaration.Region y1 y2 y3) p = λ i. Declaration.Region (coded_ℕ.inj x1 y1 (ap (λ g. head (tail g)) p) i)
    (coded_region_name.inj x2 y2 (ap (λ g. head (tail (tail g))) p) i) (coded_name.inj x3 y3 (ap (λ g. tail (tail (tail g))) p) i)
declaration_inj (Declaration.Open x1 x2 x3 x4) (Declaration.Open y1 y2 y3 y4) p = λ i. Declaration.Open (coded_ℕ.inj x1 y1 (ap (λ g. head (tail g)) p) i)
    (coded_region_name.inj x2 y2 (ap (λ g. head (tail (tail g))) p) i) (coded_name.inj x3 y3 (ap (λ g. head (tail (tail (tail g)))) p) i)
    (coded_name.inj x4 y4 (ap (λ g. tail (tail (tail (tail g)))) p) i)
declaration_inj (Declaration.Alias x1 x2 x3 x4 x5) (Declaration.Alias y1 y2 y3 y4 y5) p = λ i.
    Declaration.Alias (coded_ℕ.inj x1 y1 (ap (λ g. head (tail g)) p) i) (coded_region_name.inj x2 y2 (ap (λ g. head (tail (tail g))) p) i)
    (coded_type_name.inj x3 y3 (ap (λ g. head (tail (tail (tail g)))) p) i) (coded_name.inj x4 y4 (ap (λ g. head (tail (tail (tail (tail g))))) p) i)
    (coded_name.inj x5 y5 (ap (λ g. tail (tail (tail (tail (tail g))))) p) i)
declaration_inj (Declaration.NewKey x1 x2 x3) (Declaration.NewKey y1 y2 y3) p = λ i. Declaration.NewKey (coded_ℕ.inj x1 y1 (ap (λ g. head (tail g)) p) i)
    (coded_region_name.inj x2 y2 (ap (λ g. head (tail (tail g))) p) i) (coded_name.inj x3 y3 (ap (λ g. tail (tail (tail g))) p) i)
declaration_inj x y p = apart (declaration_code x) (declaration_code y) p refl

abbrev pub coded_declaration : Coded Declaration
coded_declaration = record { code = declaration_code; inj = declaration_inj }

abbrev pub pattern_code : Pattern → Gv
pattern_code (Pattern.Case x1 x2) = gcons (gnum 0) (gcons (coded_name.code x1) (coded_name.code x2))
pattern_code Pattern.Default = gcons (gnum 1) gnil

pub pattern_inj : (x y : Pattern) → pattern_code x ≡ pattern_code y → x ≡ y
pattern_inj (Pattern.Case x1 x2) (Pattern.Case y1 y2) p = λ i. Pattern.Case (coded_name.inj x1 y1 (ap (λ g. head (tail g)) p) i)
    (coded_name.inj x2 y2 (ap (λ g. tail (tail g)) p) i)
pattern_inj Pattern.Default Pattern.Default p = refl
pattern_inj x y p = apart (pattern_code x) (pattern_code y) p refl

abbrev pub coded_pattern : Coded Pattern
coded_pattern = record { code = pattern_code; inj = pattern_inj }

abbrev mutual
  pub statement_code : Statement → Gv
  statement_code (Statement.Empty x1) = gcons (gnum 0) (coded_ℕ.code x1)
  statement_code (Statement.Block x1 x2) = gcons (gnum 1) (gcons (coded_ℕ.code x1) (block_items_code x2))
  statement_code (Statement.Run x1) = gcons (gnum 2) (coded_expression.code x1)
  statement_code (Statement.Exchange x1 x2) = gcons (gnum 3) (gcons (coded_expression.code x1) (coded_expression.code x2))
  statement_code (Statement.If x1 x2 x3) = gcons (gnum 4) (gcons (coded_ℕ.code x1) (gcons (coded_expression.code x2) (statement_code x3)))
  statement_code (Statement.IfElse x1 x2 x3 x4) =
      gcons (gnum 5) (gcons (coded_ℕ.code x1) (gcons (coded_expression.code x2) (gcons (statement_code x3) (statement_code x4))))
  statement_code (Statement.While x1 x2 x3) = gcons (gnum 6) (gcons (coded_ℕ.code x1) (gcons (coded_expression.code x2) (statement_code x3)))
  statement_code (Statement.Switch x1 x2 x3) = gcons (gnum 7) (gcons (coded_ℕ.code x1) (gcons (coded_expression.code x2) (clauses_code x3)))
  statement_code (Statement.Break x1) = gcons (gnum 8) (coded_ℕ.code x1)
  statement_code (Statement.Continue x1) = gcons (gnum 9) (coded_ℕ.code x1)
  statement_code (Statement.Return x1 x2) = gcons (gnum 10) (gcons (coded_ℕ.code x1) ((coded_option coded_expression).code x2))
  statement_code (Statement.FreeUnique x1 x2) = gcons (gnum 11) (gcons (coded_ℕ.code x1) (coded_name.code x2))
  statement_code (Statement.FreeKey x1 x2) = gcons (gnum 12) (gcons (coded_ℕ.code x1) (coded_name.code x2))

  pub block_items_code : BlockItems → Gv
  block_items_code BlockItems.NoItems = gcons (gnum 0) gnil
  block_items_code (BlockItems.Declare x1 x2) = gcons (gnum 1) (gcons (coded_declaration.code x1) (block_items_code x2))
  block_items_code (BlockItems.Execute x1 x2) = gcons (gnum 2) (gcons (statement_code x1) (block_items_code x2))

  pub clauses_code : Clauses → Gv
  clauses_code Clauses.NoClauses = gcons (gnum 0) gnil
  clauses_code (Clauses.MoreClauses x1 x2 x3 x4) =
      gcons (gnum 1) (gcons (coded_ℕ.code x1) (gcons (coded_pattern.code x2) (gcons (block_items_code x3) (clauses_code x4))))

mutual
  pub statement_inj : (x y : Statement) → statement_code x ≡ statement_code y → x ≡ y
  statement_inj (Statement.Empty x1) (Statement.Empty y1) p = λ i. Statement.Empty (coded_ℕ.inj x1 y1 (ap (λ g. tail g) p) i)
  statement_inj (Statement.Block x1 x2) (Statement.Block y1 y2) p = λ i. Statement.Block (coded_ℕ.inj x1 y1 (ap (λ g. head (tail g)) p) i)
      (block_items_inj x2 y2 (ap (λ g. tail (tail g)) p) i)
  statement_inj (Statement.Run x1) (Statement.Run y1) p = λ i. Statement.Run (coded_expression.inj x1 y1 (ap (λ g. tail g) p) i)
  statement_inj (Statement.Exchange x1 x2) (Statement.Exchange y1 y2) p = λ i. Statement.Exchange (coded_expression.inj x1 y1 (ap (λ g. head (tail g)) p) i)
      (coded_expression.inj x2 y2 (ap (λ g. tail (tail g)) p) i)
  statement_inj (Statement.If x1 x2 x3) (Statement.If y1 y2 y3) p = λ i. Statement.If (coded_ℕ.inj x1 y1 (ap (λ g. head (tail g)) p) i)
      (coded_expression.inj x2 y2 (ap (λ g. head (tail (tail g))) p) i) (statement_inj x3 y3 (ap (λ g. tail (tail (tail g))) p) i)
  statement_inj (Statement.IfElse x1 x2 x3 x4) (Statement.IfElse y1 y2 y3 y4) p = λ i. Statement.IfElse (coded_ℕ.inj x1 y1 (ap (λ g. head (tail g)) p) i)
      (coded_expression.inj x2 y2 (ap (λ g. head (tail (tail g))) p) i) (statement_inj x3 y3 (ap (λ g. head (tail (tail (tail g)))) p) i)
      (statement_inj x4 y4 (ap (λ g. tail (tail (tail (tail g)))) p) i)
  statement_inj (Statement.While x1 x2 x3) (Statement.While y1 y2 y3) p = λ i. Statement.While (coded_ℕ.inj x1 y1 (ap (λ g. head (tail g)) p) i)
      (coded_expression.inj x2 y2 (ap (λ g. head (tail (tail g))) p) i) (statement_inj x3 y3 (ap (λ g. tail (tail (tail g))) p) i)
  statement_inj (Statement.Switch x1 x2 x3) (Statement.Switch y1 y2 y3) p = λ i. Statement.Switch (coded_ℕ.inj x1 y1 (ap (λ g. head (tail g)) p) i)
      (coded_expression.inj x2 y2 (ap (λ g. head (tail (tail g))) p) i) (clauses_inj x3 y3 (ap (λ g. tail (tail (tail g))) p) i)
  statement_inj (Statement.Break x1) (Statement.Break y1) p = λ i. Statement.Break (coded_ℕ.inj x1 y1 (ap (λ g. tail g) p) i)
  statement_inj (Statement.Continue x1) (Statement.Continue y1) p = λ i. Statement.Continue (coded_ℕ.inj x1 y1 (ap (λ g. tail g) p) i)
  statement_inj (Statement.Return x1 x2) (Statement.Return y1 y2) p = λ i. Statement.Return (coded_ℕ.inj x1 y1 (ap (λ g. head (tail g)) p) i)
      ((coded_option coded_expression).inj x2 y2 (ap (λ g. tail (tail g)) p) i)
  statement_inj (Statement.FreeUnique x1 x2) (Statement.FreeUnique y1 y2) p = λ i. Statement.FreeUnique (coded_ℕ.inj x1 y1 (ap (λ g. head (tail g)) p) i)
      (coded_name.inj x2 y2 (ap (λ g. tail (tail g)) p) i)
  statement_inj (Statement.FreeKey x1 x2) (Statement.FreeKey y1 y2) p = λ i. Statement.FreeKey (coded_ℕ.inj x1 y1 (ap (λ g. head (tail g)) p) i)
      (coded_name.inj x2 y2 (ap (λ g. tail (tail g)) p) i)
  statement_inj x y p = apart (statement_code x) (statement_code y) p refl

  pub block_items_inj : (x y : BlockItems) → block_items_code x ≡ block_items_code y → x ≡ y
  block_items_inj BlockItems.NoItems BlockItems.NoItems p = refl
  block_items_inj (BlockItems.Declare x1 x2) (BlockItems.Declare y1 y2) p = λ i. BlockItems.Declare (coded_declaration.inj x1 y1 (ap (λ g. head (tail g)) p) i)
      (block_items_inj x2 y2 (ap (λ g. tail (tail g)) p) i)
  block_items_inj (BlockItems.Execute x1 x2) (BlockItems.Execute y1 y2) p = λ i. BlockItems.Execute (statement_inj x1 y1 (ap (λ g. head (tail g)) p) i)
      (block_items_inj x2 y2 (ap (λ g. tail (tail g)) p) i)
  block_items_inj x y p = apart (block_items_code x) (block_items_code y) p refl

  pub clauses_inj : (x y : Clauses) → clauses_code x ≡ clauses_code y → x ≡ y
  clauses_inj Clauses.NoClauses Clauses.NoClauses p = refl
  clauses_inj (Clauses.MoreClauses x1 x2 x3 x4) (Clauses.MoreClauses y1 y2 y3 y4) p = λ i. Clauses.MoreClauses (coded_ℕ.inj x1 y1 (ap (λ g. head (tail g)) p) i)
      (coded_pattern.inj x2 y2 (ap (λ g. head (tail (tail g))) p) i) (block_items_inj x3 y3 (ap (λ g. head (tail (tail (tail g)))) p) i)
      (clauses_inj x4 y4 (ap (λ g. tail (tail (tail (tail g)))) p) i)
  clauses_inj x y p = apart (clauses_code x) (clauses_code y) p refl

abbrev pub coded_statement : Coded Statement
coded_statement = record { code = statement_code; inj = statement_inj }

abbrev pub coded_block_items : Coded BlockItems
coded_block_items = record { code = block_items_code; inj = block_items_inj }

abbrev pub coded_clauses : Coded Clauses
coded_clauses = record { code = clauses_code; inj = clauses_inj }

abbrev pub coded_member : Coded Member
coded_member =
    code_by (TypeName × Name) (coded× coded_type_name coded_name) (λ r. (r.of, r.name))
    (λ p. record { of = p.0; name = p.1 }) (λ _. refl)

abbrev pub coded_structure : Coded Structure
coded_structure =
    code_by (ℕ × (Name × ((List RegionName) × (List Member))))
    (coded× coded_ℕ (coded× coded_name (coded× (coded_list coded_region_name) (coded_list coded_member)))) (λ r. (r.at, (r.tag, (r.regions, r.members))))
    (λ p. record { at = p.0; tag = p.1.0; regions = p.1.1.0; members = p.1.1.1 }) (λ _. refl)

abbrev pub constant_code : Constant → Gv
constant_code (Constant.Number x1 x2 x3) = gcons (gnum 0) (gcons (coded_ℕ.code x1) (gcons (coded_ℕ.code x2) (coded_bool.code x3)))
constant_code (Constant.Negative x1 x2 x3) = gcons (gnum 1) (gcons (coded_ℕ.code x1) (gcons (coded_ℕ.code x2) (coded_bool.code x3)))
constant_code (Constant.Character x1 x2) = gcons (gnum 2) (gcons (coded_ℕ.code x1) (coded_ℕ.code x2))
constant_code (Constant.Text x1 x2) = gcons (gnum 3) (gcons (coded_ℕ.code x1) ((coded_list coded_ℕ).code x2))
constant_code (Constant.Null x1) = gcons (gnum 4) (coded_ℕ.code x1)

pub constant_inj : (x y : Constant) → constant_code x ≡ constant_code y → x ≡ y
constant_inj (Constant.Number x1 x2 x3) (Constant.Number y1 y2 y3) p = λ i. Constant.Number (coded_ℕ.inj x1 y1 (ap (λ g. head (tail g)) p) i)
    (coded_ℕ.inj x2 y2 (ap (λ g. head (tail (tail g))) p) i) (coded_bool.inj x3 y3 (ap (λ g. tail (tail (tail g))) p) i)
constant_inj (Constant.Negative x1 x2 x3) (Constant.Negative y1 y2 y3) p = λ i. Constant.Negative (coded_ℕ.inj x1 y1 (ap (λ g. head (tail g)) p) i)
    (coded_ℕ.inj x2 y2 (ap (λ g. head (tail (tail g))) p) i) (coded_bool.inj x3 y3 (ap (λ g. tail (tail (tail g))) p) i)
constant_inj (Constant.Character x1 x2) (Constant.Character y1 y2) p = λ i. Constant.Character (coded_ℕ.inj x1 y1 (ap (λ g. head (tail g)) p) i)
    (coded_ℕ.inj x2 y2 (ap (λ g. tail (tail g)) p) i)
constant_inj (Constant.Text x1 x2) (Constant.Text y1 y2) p = λ i. Constant.Text (coded_ℕ.inj x1 y1 (ap (λ g. head (tail g)) p) i)
    ((coded_list coded_ℕ).inj x2 y2 (ap (λ g. tail (tail g)) p) i)
constant_inj (Constant.Null x1) (Constant.Null y1) p = λ i. Constant.Null (coded_ℕ.inj x1 y1 (ap (λ g. tail g) p) i)
constant_inj x y p = apart (constant_code x) (constant_code y) p refl

abbrev pub coded_constant : Coded Constant
coded_constant = record { code = constant_code; inj = constant_inj }

abbrev pub initial_code : Initial → Gv
initial_code Initial.Unset = gcons (gnum 0) gnil
initial_code (Initial.Elements x1) = gcons (gnum 1) (coded_ℕ.code x1)
initial_code (Initial.Given x1) = gcons (gnum 2) (coded_constant.code x1)

pub initial_inj : (x y : Initial) → initial_code x ≡ initial_code y → x ≡ y
initial_inj Initial.Unset Initial.Unset p = refl
initial_inj (Initial.Elements x1) (Initial.Elements y1) p = λ i. Initial.Elements (coded_ℕ.inj x1 y1 (ap (λ g. tail g) p) i)
initial_inj (Initial.Given x1) (Initial.Given y1) p = λ i. Initial.Given (coded_constant.inj x1 y1 (ap (λ g. tail g) p) i)
initial_inj x y p = apart (initial_code x) (initial_code y) p refl

abbrev pub coded_initial : Coded Initial
coded_initial = record { code = initial_code; inj = initial_inj }

abbrev pub coded_global : Coded Global
coded_global =
    code_by (TypeName × (Name × Initial)) (coded× coded_type_name (coded× coded_name coded_initial)) (λ r. (r.of, (r.name, r.initial)))
    (λ p. record { of = p.0; name = p.1.0; initial = p.1.1 }) (λ _. refl)

abbrev pub coded_bound : Coded Bound
coded_bound =
    code_by (RegionName × RegionName) (coded× coded_region_name coded_region_name) (λ r. (r.longer, r.shorter))
    (λ p. record { longer = p.0; shorter = p.1 }) (λ _. refl)

abbrev pub coded_function : Coded Function
coded_function =
    code_by (TypeName × (Name × ((List Member) × ((Option (List RegionName)) × ((List Bound) × (BlockItems × ℕ))))))
    (coded× coded_type_name (coded× coded_name
    (coded× (coded_list coded_member)
    (coded× (coded_option (coded_list coded_region_name)) (coded× (coded_list coded_bound) (coded× coded_block_items coded_ℕ))))))
    (λ r. (r.result, (r.name, (r.parameters, (r.effect, (r.bounds, (r.body, r.end)))))))
    (λ p. record {
      result = p.0;
      name = p.1.0;
      parameters = p.1.1.0;
      effect = p.1.1.1.0;
      bounds = p.1.1.1.1.0;
      body = p.1.1.1.1.1.0;
      end = p.1.1.1.1.1.1;
    }) (λ _. refl)

abbrev pub item_code : Item → Gv
item_code (Item.StructItem x1) = gcons (gnum 0) (coded_structure.code x1)
item_code (Item.UnionItem x1) = gcons (gnum 1) (coded_structure.code x1)
item_code (Item.GlobalItem x1) = gcons (gnum 2) (coded_global.code x1)
item_code (Item.FunctionItem x1) = gcons (gnum 3) (coded_function.code x1)

pub item_inj : (x y : Item) → item_code x ≡ item_code y → x ≡ y
item_inj (Item.StructItem x1) (Item.StructItem y1) p = λ i. Item.StructItem (coded_structure.inj x1 y1 (ap (λ g. tail g) p) i)
item_inj (Item.UnionItem x1) (Item.UnionItem y1) p = λ i. Item.UnionItem (coded_structure.inj x1 y1 (ap (λ g. tail g) p) i)
item_inj (Item.GlobalItem x1) (Item.GlobalItem y1) p = λ i. Item.GlobalItem (coded_global.inj x1 y1 (ap (λ g. tail g) p) i)
item_inj (Item.FunctionItem x1) (Item.FunctionItem y1) p = λ i. Item.FunctionItem (coded_function.inj x1 y1 (ap (λ g. tail g) p) i)
item_inj x y p = apart (item_code x) (item_code y) p refl

abbrev pub coded_item : Coded Item
coded_item = record { code = item_code; inj = item_inj }

abbrev pub coded_program : Coded Program
coded_program = coded_list coded_item
