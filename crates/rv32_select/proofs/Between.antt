-- What stands between the ways of a choice and behind them, by whether there is a second way.
use Rattle.std.proofs.Common.{◌≡◌, ℕ, Bool, false, List, [], ◌∷◌, ◌++◌, length, refl, arith}
use Rattle.cyc_core.specs.declared.statement.Statement as code
use Rattle.cyc_core.specs.Trees.{body_tree}
use Rattle.core_lines.specs.declared.line.Line.TheVariants.{Label}
use Rattle.core_lines.specs.Choosing.{jump_code, between_code, behind_code}

pub between_none : (completes : Bool) (ss : List code.Statement) (behind next : ℕ) → length ss ≡ 0
    → between_code completes (body_tree ss) behind next ≡ jump_code false behind ++ (Label next ∷ [])
between_none completes [] behind next none = refl
between_none completes (s ∷ ss) behind next none = absurd (omega (arith, none))

pub between_some : (completes : Bool) (ss : List code.Statement) (behind next : ℕ) → (length ss ≡ 0 → ⊥)
    → between_code completes (body_tree ss) behind next ≡ jump_code completes behind ++ (Label next ∷ [])
between_some completes [] behind next some = absurd (some refl)
between_some completes (s ∷ ss) behind next some = refl

pub behind_none : (ss : List code.Statement) (behind : ℕ) → length ss ≡ 0 → behind_code (body_tree ss) behind ≡ []
behind_none [] behind none = refl
behind_none (s ∷ ss) behind none = absurd (omega (arith, none))

pub behind_some : (ss : List code.Statement) (behind : ℕ) → (length ss ≡ 0 → ⊥) → behind_code (body_tree ss) behind ≡ Label behind ∷ []
behind_some [] behind some = absurd (some refl)
behind_some (s ∷ ss) behind some = refl
