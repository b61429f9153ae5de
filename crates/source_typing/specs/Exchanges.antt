-- Believed: exchanges `a :=: b`.
use Rattle.std.specs.Prelude.{Bool, List, not, ◌&&◌, [], ◌∷◌, ◌++◌}
use Rattle.cyc_tree.specs.Places.{expression_place}
use Rattle.cyc_tree.specs.Tree.{Array, Arrow, Dot, Expression, Expressions, Index, Links, Made, MoreExpressions, MoreLinks, NoExpressions, NoLinks}
use Rattle.cyc_tree.specs.Tree.{NoSuffixes, One, Suffixes}
use Rattle.source_typing.specs.Faults.{Fault, fault, own_after, test, type_rule}
use Rattle.source_typing.specs.Scope.{Value, is_place}
use Rattle.source_typing.specs.Types.{is_key, is_same, is_scalar}
use Rattle.source_typing.specs.Verdicts.{Of, Verdict, unless_faulty}

-- No call, making or assignment stands inside the places, else Type at that.
abbrev mutual
  pub acts : Expression → List Fault
  acts (Expression.Call x es) = fault type_rule x.at ∷ all_acts es
  acts (Expression.MakeUnion tag f e) = fault type_rule tag.at ∷ acts e
  acts (Expression.NumElts at e) = acts e
  acts (Expression.Grouped at e) = acts e
  acts (Expression.Suffixed e suffixes) = acts e ++ suffix_acts suffixes
  acts (Expression.Prefixed at o e) = acts e
  acts (Expression.New at new) = fault type_rule at ∷ made_acts new
  acts (Expression.NewIn at h new) = fault type_rule at ∷ acts h ++ made_acts new
  acts (Expression.Chain e links) = acts e ++ link_acts links
  acts (Expression.AllOf e es) = acts e ++ all_acts es
  acts (Expression.AnyOf e es) = acts e ++ all_acts es
  acts (Expression.Assign a b) = fault type_rule (expression_place a) ∷ acts a ++ acts b
  acts (Expression.Number at n suffix) = []
  acts (Expression.Character at byte) = []
  acts (Expression.Text at bytes) = []
  acts (Expression.Null at) = []
  acts (Expression.HeapRegion at) = []
  acts (Expression.UniqueRegion at) = []
  acts (Expression.Variable x) = []

  pub all_acts : Expressions → List Fault
  all_acts NoExpressions = []
  all_acts (MoreExpressions e es) = acts e ++ all_acts es

  pub link_acts : Links → List Fault
  link_acts NoLinks = []
  link_acts (MoreLinks o e es) = acts e ++ link_acts es

  pub suffix_acts : Suffixes → List Fault
  suffix_acts NoSuffixes = []
  suffix_acts (Index e es) = acts e ++ suffix_acts es
  suffix_acts (Dot f es) = suffix_acts es
  suffix_acts (Arrow f es) = suffix_acts es

  pub made_acts : Made → List Fault
  made_acts (One e) = acts e
  made_acts (Array x n e) = acts n ++ acts e

-- two places of one scalar type that is no key's
abbrev pub exchangeable : Value → Value → Bool
exchangeable a b = is_place a.seat && is_place b.seat && is_same a.type b.type && is_scalar a.type && not (is_key a.type)

-- Both sides are such places, else Type at the left one; a call, making or assignment in them is a part with a fault.
abbrev pub exchanged : List Fault → Value → Value → Verdict Value
exchanged inner a b = unless_faulty (own_after (test (exchangeable a b) type_rule a.at) inner) (Of a)
