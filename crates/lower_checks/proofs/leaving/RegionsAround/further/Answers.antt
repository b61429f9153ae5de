use Rattle.std.proofs.Common.{◌∙◌, ◌+◌, suc, arith, ap, [], ◌∷◌}
use Rattle.std.proofs.lemmas.List.{reverse-append}
use Rattle.std.specs.Prelude.{reverse}
use Rattle.lower_checks.proofs.Items.{same_regions}
use Rattle.lower_checks.proofs.leaving.RegionsAround.further.Goals as goal

-- each number is one more, and the key is noted behind those before
pub returns-clause-regions : goal.returns-clause-regions
returns-clause-regions c sound =
    let h = c.args.self in
    let before = c.args.opened.now.items in
    same_regions (h.all + 1) (suc h.all) (h.broken + 1) (suc h.broken) (h.continued + 1) (suc h.continued)
    (reverse c.note_opened.new.opened.items) (c.args.by_key ∷ reverse before) (omega arith) (omega arith) (omega arith)
    (ap reverse (c.note_opened.ensures.noted sound) ∙ reverse-append before (c.args.by_key ∷ []))
