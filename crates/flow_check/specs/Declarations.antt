-- View of code: what a declaration adds to its block.
use Rattle.std.specs.Prelude.{List, ℕ, ◌≡◌, ◌∷◌}
use Rattle.cyc_tree.specs.Tree as tree
use Rattle.flow_summaries.specs.Exits.{Exits, lent_in, with_passage}
use Rattle.flow_summaries.specs.Statements.{passage_of_initial}
use Rattle.flow_summaries.specs.Uses.{number_of}
use Rattle.source_typing.specs.Scope.{Env, Local}

-- its initializer, before the rest of the block
abbrev pub initial_before : Env → tree.Declaration → Exits → Exits
initial_before g (tree.Local t x i) w = with_passage (passage_of_initial g i) w
initial_before g d w = w

-- its loan, in the rest of the block
abbrev pub loan_before : Env → tree.Declaration → Exits → Exits
loan_before g (tree.Open at r x k) w = lent_in at k (number_of g.locals k.text) w
loan_before g (tree.Alias at r t x p) w = lent_in at p (number_of g.locals p.text) w
loan_before g d w = w

-- A local of this name is in scope inside, or no other one than outside.
pub data Adds (x : List ℕ) (outer : List Local) : List Local → Type 0 where
  Nothing : Adds x outer outer
  One : (l : Local) → l.name ≡ x → Adds x outer (l ∷ outer)
