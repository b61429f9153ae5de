use Rattle.std.proofs.Common.{◌≡◌, true, false, ap, ◌∙◌, sym, refl, rules}
use Rattle.core_meaning.specs.Steps as steps
use Rattle.core_eval.specs.Blocks.{stored_of}
use Rattle.core_eval.specs.Whole.{are_alike, are_laid, slots_of, values_from, fill_to}
use Rattle.core_eval.specs.Pendings.{Leave, Go}
use Rattle.core_eval.specs.Standing.{known_of}
use Rattle.core_eval.proofs.Changes.{with_stored}
use Rattle.core_eval.proofs.Answered.{move_as, stored_known}
use Rattle.core_eval.proofs.WholeMoves.{all_hold, first_fails, second_fails, third_fails, copy_moves, copy_wrong}
use Rattle.core_eval.proofs.Lent.{all_cells}
use Rattle.core_eval.proofs.whole.copy.Goals as goal

pub returns : goal.returns
returns c =
    let m = c.args.memory.now in
    let m' = c.fill_to.new.self in
    let f = c.args.frame.now in
    let p = c.in-Pointer.target in
    let q = c.in-Pointer-temp.source in
    let cells = c.deref-cells.ensures.value in
    let there : c.in_ok-is_there.is_there ≡ true = search rules in
    let source : c.in_ok-has_source.has_source ≡ true = search rules in
    let apart : c.is_same_object.result ≡ false = search rules in
    λ ws. move_as _ ws (known_of f m) (Go (Leave steps.Falls)) _ ws (with_stored (known_of f m) (stored_of m')) (known_of f m') refl
    (stored_known f m m' c.in_ok-fill_to.ensures.entered c.in_ok-fill_to.ensures.called)
    (copy_moves (known_of f m) ws c.args.to.0 c.temp.result c.temp.ensures p c.in-Pointer.is c.args.layout.now c.args.from.0 c.temp-2.result c.temp-2.ensures q
    c.in-Pointer-temp.is (stored_of m')
    (λ d. all_hold _ _ _
    (ap (are_laid (stored_of m) p) (sym cells) ∙ sym (c.in_ok-is_there.ensures.laid d) ∙ there)
    (ap (are_laid (stored_of m) q) (sym cells) ∙ sym (c.in_ok-has_source.ensures.laid d) ∙ source)
    (sym c.is_same_object.ensures ∙ apart))
    (λ d. ap (are_alike (slots_of (stored_of m) p) p.cell) (sym cells) ∙ c.in_ok-is_there.ensures.alike there d)
    (λ d. ap (are_alike (slots_of (stored_of m) q) q.cell) (sym cells) ∙ c.in_ok-has_source.ensures.alike source d)
    (λ d. c.in_ok-fill_to.ensures.stored d
    ∙ ap (fill_to (stored_of m) p.area p.object p.cell)
    (c.deref.ensures.value ∙ c.in_ok-values.ensures ∙ ap (λ s. values_from s q.cell c.deref-cells.result.now) (sym (all_cells _ _ (c.object-object.ensures d)))
    ∙ ap (values_from (slots_of (stored_of m) q) q.cell) cells)))

pub returns-then-not-is_there : goal.returns-then-not-is_there
returns-then-not-is_there c =
    let m = c.args.memory.now in
    let p = c.in-Pointer.target in
    let q = c.in-Pointer-temp.source in
    let there : c.in_ok-is_there.is_there ≡ false = search rules in
    λ ws. copy_wrong (known_of c.args.frame.now m) ws c.args.to.0 c.temp.result c.temp.ensures p c.in-Pointer.is c.args.layout.now c.args.from.0
    c.temp-2.result c.temp-2.ensures q c.in-Pointer-temp.is
    (λ d. first_fails _ _ _ (ap (are_laid (stored_of m) p) (sym c.deref-cells.ensures.value) ∙ sym (c.in_ok-is_there.ensures.laid d) ∙ there))

pub returns-then-not-has_source : goal.returns-then-not-has_source
returns-then-not-has_source c =
    let m = c.args.memory.now in
    let p = c.in-Pointer.target in
    let q = c.in-Pointer-temp.source in
    let source : c.in_ok-has_source.has_source ≡ false = search rules in
    λ ws. copy_wrong (known_of c.args.frame.now m) ws c.args.to.0 c.temp.result c.temp.ensures p c.in-Pointer.is c.args.layout.now c.args.from.0
    c.temp-2.result c.temp-2.ensures q c.in-Pointer-temp.is
    (λ d. second_fails _ _ _ (ap (are_laid (stored_of m) q) (sym c.deref-cells.ensures.value) ∙ sym (c.in_ok-has_source.ensures.laid d) ∙ source))

pub returns-then-is_same_object : goal.returns-then-is_same_object
returns-then-is_same_object c =
    let m = c.args.memory.now in
    let p = c.in-Pointer.target in
    let q = c.in-Pointer-temp.source in
    let same : c.is_same_object.result ≡ true = search rules in
    λ ws. copy_wrong (known_of c.args.frame.now m) ws c.args.to.0 c.temp.result c.temp.ensures p c.in-Pointer.is c.args.layout.now c.args.from.0
    c.temp-2.result c.temp-2.ensures q c.in-Pointer-temp.is
    (λ d. third_fails _ _ _ (sym c.is_same_object.ensures ∙ same))
