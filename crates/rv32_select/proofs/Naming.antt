-- What a block's locals are named, and those behind them.
use Rattle.std.proofs.Common.{◌≡◌, ℕ, ◌+◌, List, length, drop, map, sym, ap, ◌∙◌}
use Rattle.std.proofs.lemmas.List.{length-map}
use Rattle.core_meaning.specs.Core.{Local}
use Rattle.core_lines.specs.Selected.{end_from, shrunk, homes_here, homes_after}
use Rattle.rv32_select.proofs.Shrinking.{shrunk_here, after_drop}

-- where they end, by the homes of all locals that are named behind what stands before
pub block_end : (low end : ℕ) (ls : List Local) (homes hs : List ℕ) (k : ℕ) → end ≡ end_from low (shrunk ls hs) → hs ≡ drop k homes
    → end ≡ end_from low (shrunk ls (homes_here ls (drop k homes)))
block_end low end ls homes hs k e is =
    e ∙ ap (λ rest. end_from low (shrunk ls rest)) is ∙ ap (λ shorter. end_from low shorter) (sym (shrunk_here ls (drop k homes)))

pub block_names : {A : Type 0} (tree : A → Local) (ls : List A) (homes : List ℕ) (k inner : ℕ) → inner ≡ k + length ls
    → drop inner homes ≡ homes_after (map tree ls) (drop k homes)
block_names tree ls homes k inner e =
    ap (λ n. drop n homes) e ∙ ap (λ n. drop (k + n) homes) (sym (length-map ls tree)) ∙ sym (after_drop (map tree ls) homes k)
