-- Expressions of numbers, operators and parentheses are never stuck: the form of the induction over all expressions.
use Rattle.std.proofs.Common.{◌≡◌, ◌≢◌, ℕ, Bool, true, false, List, [], ◌∷◌, refl, sym, subst}
use Rattle.cyc_tree.specs.declared.expression.Operator.{Operator}
use Rattle.cyc_tree.specs.declared.expression.Operator.TheVariants.{Equal, NotEqual, Less, LessEqual, Greater, GreaterEqual}
use Rattle.cyc_tree.specs.Tree.{Expression, Links, NoLinks, MoreLinks}
use Rattle.cyc_words.specs.Events.{SourceEnding}
use Rattle.source_meaning.specs.Memory.{Memory, Scalar, IntegerType, AsInt, AsUnsigned, AsChar, Integer}
use Rattle.source_meaning.specs.Steps.{Scope, Step}
use Rattle.step_trees.specs.Trees.{run}
use Rattle.source_meaning.specs.Operators.{integers, truth_value}
use Rattle.source_meaning.specs.Places.{Sense}
use Rattle.source_meaning.specs.Calls.{constant, number_type, applied}
use Rattle.source_meaning.specs.Expressions.{sense, linked}
use Rattle.source_meaning.specs.Programs.{source_bodies}

-- the steps don't get stuck with n units
pub record Safe (n : ℕ) (s : Step) : Type 0 where
  pub by : (input : List ℕ) → (run source_bodies n s input).ending ≢ SourceEnding.Stuck

-- it gives an integer, whatever comes next
pub record GivesInteger (e : Sense) : Type 0 where
  pub look : (n : ℕ) (next : List Scalar → Memory → Step) (m : Memory) → ((t : IntegerType) (x : ℕ) → Safe n (next (Integer t x ∷ []) m))
      → Safe n (e.look next m)

pub record IsInteger (v : Scalar) : Type 0 where
  pub type : IntegerType
  pub word : ℕ
  pub is : v ≡ Integer type word

truth_is : (b : Bool) → IsInteger (truth_value b)
truth_is true = record { type = AsInt; word = 1; is = refl }
truth_is false = record { type = AsInt; word = 0; is = refl }

integers_are : (o : Operator) (s : IntegerType) (x : ℕ) (t : IntegerType) (y : ℕ) → IsInteger (integers o s x t y)
integers_are Equal s x t y = truth_is _
integers_are NotEqual s x t y = truth_is _
integers_are Less s x t y = truth_is _
integers_are LessEqual s x t y = truth_is _
integers_are Greater s x t y = truth_is _
integers_are GreaterEqual s x t y = truth_is _
integers_are _ s x t y = record { type = _; word = _; is = refl }

applied_gives : (o : Operator) (a b : Sense) → GivesInteger a → GivesInteger b → GivesInteger (applied o a b)
applied_gives o a b ha hb = record {
  look = λ n next m h. ha.look n _ m (λ s x. hb.look n _ m (λ t y.
      let v = integers_are o s x t y in subst (λ (w : Scalar). Safe n (next (w ∷ []) m)) (sym v.is) (h v.type v.word)));
}

constant_gives : (t : IntegerType) (x : ℕ) → GivesInteger (constant t x)
constant_gives AsInt x = record { look = λ n next m h. h AsInt _ }
constant_gives AsUnsigned x = record { look = λ n next m h. h AsUnsigned _ }
constant_gives AsChar x = record { look = λ n next m h. h AsChar _ }

-- of numbers, operators and parentheses alone
abbrev mutual
  pub IsPlain : Expression → Type 0
  IsPlain (Expression.Number at value suffix) = Unit {0}
  IsPlain (Expression.Character at byte) = Unit {0}
  IsPlain (Expression.Grouped at inner) = IsPlain inner
  IsPlain (Expression.Chain first others) = IsPlain first × ArePlain others
  IsPlain _ = ⊥

  pub ArePlain : Links → Type 0
  ArePlain NoLinks = Unit {0}
  ArePlain (MoreLinks operator operand others) = IsPlain operand × ArePlain others

mutual
  pub plain_gives : (e : Expression) (scope : Scope) → IsPlain e → GivesInteger (sense e scope)
  plain_gives (Expression.Number at value suffix) scope h = constant_gives (number_type value suffix) value
  plain_gives (Expression.Character at byte) scope h = constant_gives AsChar byte
  plain_gives (Expression.Grouped at inner) scope h = plain_gives inner scope h
  plain_gives (Expression.Chain first others) scope h = linked_gives others scope (sense first scope) h.1 (plain_gives first scope h.0)
  plain_gives _ scope h = absurd h

  linked_gives : (links : Links) (scope : Scope) (left : Sense) → ArePlain links → GivesInteger left → GivesInteger (linked links scope left)
  linked_gives NoLinks scope left h g = g
  linked_gives (MoreLinks operator operand others) scope left h g =
      linked_gives others scope (applied operator left (sense operand scope)) h.1
      (applied_gives operator left (sense operand scope) g (plain_gives operand scope h.0))
