-- View of code: what a listing is: lines with labels, and of each function in turn where its locals live.
use Rattle.std.specs.Prelude.{ℕ, List, map}
use Rattle.core_meaning.specs.Core.{Function}
use Rattle.core_lines.specs.declared.line.Line.{Line}
use Rattle.core_lines.specs.Homes.{home_in}

pub record Listing : Type 0 where
  pub lines : List Line
  pub homes : List (List ℕ)

-- the registers of a function's locals, in its order, 0 for one that has none
abbrev pub homes_in_order : Function → List ℕ
homes_in_order f = map (home_in f) f.order

-- of each function in turn
abbrev pub homes_listed : List Function → List (List ℕ)
homes_listed fs = map homes_in_order fs
