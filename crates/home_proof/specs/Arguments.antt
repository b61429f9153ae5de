-- Believed, for this crate's laws: phrases in which no call has more arguments than its function has parameters, as the rules want it. What makes a struct is
-- no call here.
use Rattle.std.specs.Prelude.{Bool, true, false, Some, List, [], ◌∷◌}
use Rattle.cyc_tree.specs.Tree as tree
use Rattle.cyc_tree.specs.Tree.{
  Expression,
  Expressions,
  NoExpressions,
  MoreExpressions,
  Links,
  NoLinks,
  MoreLinks,
  Suffixes,
  NoSuffixes,
  Index,
  Dot,
  Arrow,
  Made,
  One,
  Array,
  Initializer,
  Declaration,
  Statement,
  BlockItems,
  NoItems,
  Declare,
  Execute,
  Clauses,
  NoClauses,
  MoreClauses,
}
use Rattle.source_meaning.specs.Shapes.{Shape}
use Rattle.source_meaning.specs.Steps.{World}
use Rattle.source_lowering.specs.Lowered.{call_parameters, makes_struct}

-- a parameter for each argument
abbrev pub AreEnough : List Shape → Expressions → Type 0
AreEnough [] NoExpressions = Unit {0}
AreEnough [] (MoreExpressions first others) = ⊥
AreEnough (s ∷ ss) NoExpressions = Unit {0}
AreEnough (s ∷ ss) (MoreExpressions first others) = AreEnough ss others

-- of a name that is called, by whether it makes a struct
abbrev pub AreEnoughBy : (made : Bool) → List Shape → Expressions → Type 0
AreEnoughBy true ss arguments = Unit {0}
AreEnoughBy false ss arguments = AreEnough ss arguments

abbrev mutual
  pub HasArguments : World → Expression → Type 0
  HasArguments w (Expression.Call name arguments) =
      AreEnoughBy (makes_struct w name.text) (call_parameters w name.text) arguments × AllHaveArguments w arguments
  HasArguments w (Expression.MakeUnion tag member value) = HasArguments w value
  HasArguments w (Expression.NumElts at operand) = HasArguments w operand
  HasArguments w (Expression.Grouped at inner) = HasArguments w inner
  HasArguments w (Expression.Suffixed primary suffixes) = HasArguments w primary × SuffixesHaveArguments w suffixes
  HasArguments w (Expression.Prefixed at operator operand) = HasArguments w operand
  HasArguments w (Expression.New at new) = MadeHasArguments w new
  HasArguments w (Expression.NewIn at handle new) = HasArguments w handle × MadeHasArguments w new
  HasArguments w (Expression.Chain first others) = HasArguments w first × LinksHaveArguments w others
  HasArguments w (Expression.AllOf first others) = HasArguments w first × AllHaveArguments w others
  HasArguments w (Expression.AnyOf first others) = HasArguments w first × AllHaveArguments w others
  HasArguments w (Expression.Assign place value) = HasArguments w place × HasArguments w value
  HasArguments w _ = Unit {0}

  pub AllHaveArguments : World → Expressions → Type 0
  AllHaveArguments w NoExpressions = Unit {0}
  AllHaveArguments w (MoreExpressions first others) = HasArguments w first × AllHaveArguments w others

  pub LinksHaveArguments : World → Links → Type 0
  LinksHaveArguments w NoLinks = Unit {0}
  LinksHaveArguments w (MoreLinks operator operand others) = HasArguments w operand × LinksHaveArguments w others

  pub SuffixesHaveArguments : World → Suffixes → Type 0
  SuffixesHaveArguments w NoSuffixes = Unit {0}
  SuffixesHaveArguments w (Index index others) = HasArguments w index × SuffixesHaveArguments w others
  SuffixesHaveArguments w (Dot f others) = SuffixesHaveArguments w others
  SuffixesHaveArguments w (Arrow f others) = SuffixesHaveArguments w others

  pub MadeHasArguments : World → Made → Type 0
  MadeHasArguments w (One value) = HasArguments w value
  MadeHasArguments w (Array index count element) = HasArguments w count × HasArguments w element

abbrev pub DeclarationHasArguments : World → Declaration → Type 0
DeclarationHasArguments w (tree.Local of x (Initializer.Value e)) = HasArguments w e
DeclarationHasArguments w _ = Unit {0}

abbrev mutual
  pub StatementHasArguments : World → Statement → Type 0
  StatementHasArguments w (Statement.Block at items) = HaveArguments w items
  StatementHasArguments w (Statement.Run e) = HasArguments w e
  StatementHasArguments w (Statement.Exchange left right) = HasArguments w left × HasArguments w right
  StatementHasArguments w (Statement.If at condition body) = HasArguments w condition × StatementHasArguments w body
  StatementHasArguments w (Statement.IfElse at condition body otherwise) =
      HasArguments w condition × (StatementHasArguments w body × StatementHasArguments w otherwise)
  StatementHasArguments w (Statement.While at condition body) = HasArguments w condition × StatementHasArguments w body
  StatementHasArguments w (Statement.Switch at place clauses) = HasArguments w place × ClausesHaveArguments w clauses
  StatementHasArguments w (Statement.Return at (Some e)) = HasArguments w e
  StatementHasArguments w _ = Unit {0}

  pub HaveArguments : World → BlockItems → Type 0
  HaveArguments w NoItems = Unit {0}
  HaveArguments w (Declare d others) = DeclarationHasArguments w d × HaveArguments w others
  HaveArguments w (Execute s others) = StatementHasArguments w s × HaveArguments w others

  pub ClausesHaveArguments : World → Clauses → Type 0
  ClausesHaveArguments w NoClauses = Unit {0}
  ClausesHaveArguments w (MoreClauses at pattern body others) = HaveArguments w body × ClausesHaveArguments w others
