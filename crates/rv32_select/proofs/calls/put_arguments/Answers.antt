use Rattle.std.proofs.Common.{◌≡◌, ◌∙◌, ℕ, ◌+◌, List, ◌∷◌, ◌++◌, ap, sym, drop, map, arith}
use Rattle.std.proofs.lemmas.List.{append_assoc, drop_more}
use Rattle.cyc_core.specs.Trees.{temporary_tree}
use Rattle.core_lines.specs.declared.line.Line.{Line}
use Rattle.core_lines.specs.Frames.{save_code}
use Rattle.core_lines.specs.Held.{Holding}
use Rattle.core_lines.specs.Operands.{operand_code, operand_in, pass_code}
use Rattle.rv32_select.proofs.calls.put_arguments.Goals as goal

-- one word more is passed
passed_more : (passed : ℕ) (held : List Holding) (k next x : ℕ) (xs : List ℕ) (old new : List Line) → next ≡ k + 1
    → new ≡ old ++ operand_code passed held 5 x ++ save_code (operand_in held 5 x) next
    → new ++ pass_code passed held next xs ≡ old ++ pass_code passed held k (x ∷ xs)
passed_more passed held k next x xs old new next_is new_is =
    let register = operand_in held 5 x in
    let code = operand_code passed held 5 x in
    let slot : next ≡ 1 + k = omega arith in
    ap (λ ls. ls ++ pass_code passed held next xs) (new_is ∙ append_assoc old code (save_code register next))
    ∙ append_assoc old (code ++ save_code register next) (pass_code passed held next xs)
    ∙ (λ i. old ++ (code ++ save_code register (slot i) ++ pass_code passed held (next_is i) xs))

pub each-preserved : goal.each-preserved
each-preserved c =
    let xs = c.args.arguments.now in
    let k = c.each.argument-index in
    let place = c.args.place.now in
    record {
      whole =
          passed_more place.passed place.held c.each.passed c.in_ok-passed.passed _ (map temporary_tree (drop (k + 1) xs)) c.each.lines.items
          c.put_argument.new.lines.items c.in_ok-passed.ensures c.in_ok-put_argument.ensures
          ∙ ap (λ ys. c.each.lines.items ++ pass_code place.passed place.held c.each.passed (map temporary_tree ys)) (sym (drop_more xs k _ c.each-test.true))
          ∙ c.each.invariant.whole;
    }
