-- Bounds on the bytes that lines take.
use Rattle.std.proofs.Common.{ℕ, ◌+◌, ◌≤◌, Bool, true, false, List, [], ◌++◌, arith}
use Rattle.std.specs.Prelude.{if◌then◌else◌}
use Rattle.core_lines.specs.declared.line.Line.{Line}
use Rattle.core_lines.specs.Lines.{code_length}
use Rattle.core_lines.proofs.memory.Access.{length_of_both}

-- lines take no more than so many bytes
pub record IsWithin (n : ℕ) (lines : List Line) : Type 0 where
  pub is : code_length lines ≤ n

pub both_within : (n m : ℕ) (xs ys : List Line) → IsWithin n xs → IsWithin m ys → IsWithin (n + m) (xs ++ ys)
both_within n m xs ys h g = record { is = let e = length_of_both xs ys in let a = h.is in let b = g.is in omega (arith, e, a, b) }

pub less_within : (n m : ℕ) (xs : List Line) → n ≤ m → IsWithin n xs → IsWithin m xs
less_within n m xs l h = record { is = let a = h.is in omega (arith, a, l) }

pub if_within : (n : ℕ) (c : Bool) (xs ys : List Line) → IsWithin n xs → IsWithin n ys → IsWithin n (if c then xs else ys)
if_within n true xs ys h g = h
if_within n false xs ys h g = g

pub nothing_within : (n : ℕ) → IsWithin n []
nothing_within n = record { is = omega arith }
