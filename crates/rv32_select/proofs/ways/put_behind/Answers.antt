use Rattle.std.proofs.Common.{◌≡◌, ◌++◌, length, sym, ap, subst, ◌∙◌, rules}
use Rattle.std.specs.Prelude.{OnOk}
use Rattle.std.proofs.lemmas.Bool.{eqb-false}
use Rattle.std.proofs.lemmas.List.{append-nil}
use Rattle.rv32_select.proofs.Between.{behind_none, behind_some}
use Rattle.rv32_select.proofs.ways.put_behind.Goals as goal

pub returns-then-is_empty : goal.returns-then-is_empty
returns-then-is_empty c =
    let old = c.args.lines.now.items in
    let none : length c.args.those.now ≡ 0 = search rules in
    sym (append-nil old) ∙ ap (λ more. old ++ more) (sym (behind_none c.args.those.now c.args.behind none))

pub returns-else-is_empty : goal.returns-else-is_empty
returns-else-is_empty c =
    let old = c.args.lines.now.items in
    let some : length c.args.those.now ≡ 0 → ⊥ = eqb-false (length c.args.those.now) 0 (sym c.is_empty.ensures ∙ c.if-is_empty.false) in
    subst (λ more. OnOk c.put_lines.result (c.put_lines.new.lines.items ≡ old ++ more)) (sym (behind_some c.args.those.now c.args.behind some))
    c.put_lines.ensures
