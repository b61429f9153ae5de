-- The parameters that are left to be taken: the next one, and those behind it.
use Rattle.std.proofs.Common.{◌≡◌, ℕ, suc, ◌+◌, ◌-◌, ◌<◌, ◌/◌, Bool, List, ◌++◌, sym, ap, ◌∙◌, arith}
use Rattle.std.proofs.lemmas.List.{append_assoc}
use Rattle.core_lines.specs.declared.line.Line.{Line}
use Rattle.core_lines.specs.Frames.{load_code}
use Rattle.core_lines.specs.Homes.{flag_at}
use Rattle.core_lines.specs.Operands.{keep_code, take_code}

-- the lines that take one
abbrev pub take_one : (bytes passed : ℕ) → List Bool → (register k : ℕ) → List Line
take_one bytes passed start register k = load_code register (bytes / 4 + 1 + k) ++ keep_code (flag_at start k) passed register k

-- those that take one more
pub taken : (before after : List Line) (bytes passed : ℕ) (start : List Bool) (registers : ℕ → ℕ) (k n : ℕ) → k < n
    → after ≡ before ++ load_code (registers k) (bytes / 4 + 1 + k) ++ keep_code (flag_at start k) passed (registers k) k
    → after ++ take_code bytes passed start registers (k + 1) (n - (k + 1)) ≡ before ++ take_code bytes passed start registers k (n - k)
taken before after bytes passed start registers k n less e =
    let rest = take_code bytes passed start registers (k + 1) (n - (k + 1)) in
    let more : n - k ≡ suc (n - (k + 1)) = omega (arith, less) in
    let load = load_code (registers k) (bytes / 4 + 1 + k) in
    let keep = keep_code (flag_at start k) passed (registers k) k in
    ap (λ lines. lines ++ rest) (e ∙ append_assoc before load keep) ∙ append_assoc before (take_one bytes passed start (registers k) k) rest ∙
    ap (λ m. before ++ take_code bytes passed start registers k m) (sym more)
