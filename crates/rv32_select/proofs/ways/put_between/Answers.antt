use Rattle.std.proofs.Common.{◌≡◌, ◌++◌, length, sym, subst, ◌∙◌, rules}
use Rattle.std.specs.Prelude.{OnOk}
use Rattle.std.proofs.lemmas.Bool.{eqb-false}
use Rattle.rv32_select.proofs.Between.{between_none, between_some}
use Rattle.rv32_select.proofs.ways.put_between.Goals as goal

pub returns-then-is_empty : goal.returns-then-is_empty
returns-then-is_empty c =
    let a = c.args in
    let none : length a.those.now ≡ 0 = search rules in
    subst (λ more. OnOk c.put_lines.result (c.put_lines.new.lines.items ≡ a.lines.now.items ++ more))
    (sym (between_none a.completes a.those.now a.behind a.next none)) c.put_lines.ensures

pub returns-else-is_empty : goal.returns-else-is_empty
returns-else-is_empty c =
    let a = c.args in
    let some : length a.those.now ≡ 0 → ⊥ = eqb-false (length a.those.now) 0 (sym c.is_empty.ensures ∙ c.if-is_empty.false) in
    subst (λ more. OnOk c.put_over.result (c.put_over.new.lines.items ≡ a.lines.now.items ++ more))
    (sym (between_some a.completes a.those.now a.behind a.next some)) c.put_over.ensures
