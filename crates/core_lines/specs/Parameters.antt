-- Believed: the registers that a function's first lines take its parameters into.
use Rattle.std.specs.Prelude.{ℕ, zero, suc, List, [], ◌∷◌}
use Rattle.core_meaning.specs.Core.{Statement, Block, Statements, NoStatements, MoreStatements, Function}
use Rattle.core_lines.specs.Held.{result_index}
use Rattle.core_lines.specs.Homes.{homes_in}
use Rattle.core_lines.specs.Straight.{home_put_by}

-- the home that the k-th of statements puts a temporary's whole word into, or 0, where the locals of the block around have these homes
abbrev pub home_put_at : (homes : List ℕ) → (t k : ℕ) → Statements → ℕ
home_put_at homes t k NoStatements = 0
home_put_at homes t zero (MoreStatements s ss) = home_put_by (homes ∷ []) t s
home_put_at homes t (suc k) (MoreStatements s ss) = home_put_at homes t k ss

-- what stands in the block that statements begin with
abbrev pub in_block : Statement → Statements
in_block (Block locals body) = body
in_block s = NoStatements

abbrev pub in_first_block : Statements → Statements
in_first_block NoStatements = NoStatements
in_first_block (MoreStatements s ss) = in_block s

abbrev pub home_or_result : (t home : ℕ) → ℕ
home_or_result t zero = result_index t
home_or_result t (suc h) = h

-- The register of a parameter: the home of the local that gets it, or that of its temporary's results. For the k-th parameter the k-th statement of a
-- function's block is looked at, where these are the homes of the function's locals.
abbrev pub parameter_index : (homes : List ℕ) → Statements → ℕ → ℕ
parameter_index homes body k = home_or_result k (home_put_at homes k k (in_first_block body))

abbrev pub parameter_register : (homes : List ℕ) → Statements → ℕ → ℕ
parameter_register homes body k = suc (parameter_index homes body k)

abbrev pub parameter_registers : Function → ℕ → ℕ
parameter_registers f = parameter_register (homes_in f) f.body
