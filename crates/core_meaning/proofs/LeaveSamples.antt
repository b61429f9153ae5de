-- What a `Leave` does with each way out of its body, and that a `Break` in a choice of it, which a `switch` becomes, goes on behind it.
use Rattle.std.specs.Prelude.{ℕ, []}
use Rattle.std.proofs.Common.{◌≡◌, refl}
use Rattle.core_meaning.specs.Core.{Statement, If, Leave, Break, Continue, Return, Statements, NoStatements, MoreStatements}
use Rattle.core_meaning.specs.Steps.{Config, Step, Exit, Falls, Continues, Returns}
use Rattle.core_meaning.specs.Meaning.{branch, statement}

abbrev one : Statement → Statements
one s = MoreStatements s NoStatements

module _ (next : Exit → Config → Step) (c : Config) where
  falls : statement (Leave NoStatements) next c ≡ next Falls c
  falls = refl

  -- no unit is taken
  breaks : statement (Leave (one Break)) next c ≡ next Falls c
  breaks = refl

  continues : statement (Leave (one Continue)) next c ≡ next Continues c
  continues = refl

  returns : statement (Leave (one (Return []))) next c ≡ next (Returns []) c
  returns = refl

  -- a `Break` ends the innermost alone
  inner : statement (Leave (MoreStatements (Leave (one Break)) (one Continue))) next c ≡ next Continues c
  inner = refl

  -- two clauses: each goes on behind the whole
  clauses : (t : ℕ) → statement (Leave (MoreStatements (If t (one Break) NoStatements) (one Break))) next c ≡ branch (c.temps t) (next Falls c) (next Falls c)
  clauses t = refl
