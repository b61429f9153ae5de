use Rattle.std.proofs.Common.{◌≡◌, true, false, ap, ◌∙◌, sym, refl, rules}
use Rattle.core_meaning.specs.Steps as steps
use Rattle.core_eval.specs.Blocks.{stored_of}
use Rattle.core_eval.specs.Whole.{first_elements, fill_to}
use Rattle.core_eval.specs.Pendings.{Leave, Go}
use Rattle.core_eval.specs.Standing.{known_of}
use Rattle.core_eval.proofs.Changes.{with_stored}
use Rattle.core_eval.proofs.Answered.{move_as, stored_known}
use Rattle.core_eval.proofs.WholeMoves.{clear_moves, clear_wrong}
use Rattle.core_eval.proofs.whole.clear.Goals as goal

pub returns : goal.returns
returns c =
    let m = c.args.memory.now in
    let m' = c.fill_to.new.self in
    let f = c.args.frame.now in
    let p = c.in-Pointer.target in
    let n = c.args.count in
    let there : c.in_ok-is_there.is_there ≡ true = search rules in
    λ ws. move_as _ ws (known_of f m) (Go (Leave steps.Falls)) _ ws (with_stored (known_of f m) (stored_of m')) (known_of f m') refl
    (stored_known f m m' c.in_ok-fill_to.ensures.entered c.in_ok-fill_to.ensures.called)
    (clear_moves (known_of f m) ws c.args.place.0 c.temp.result c.temp.ensures p c.in-Pointer.is c.args.layout.now n (stored_of m')
    (λ d. sym (c.in_ok-is_there.ensures.laid d) ∙ there)
    (λ d. c.in_ok-is_there.ensures.alike there d)
    (λ d. c.in_ok-fill_to.ensures.stored d
    ∙ ap (fill_to (stored_of m) p.area p.object p.cell)
    (c.deref-2.ensures.value ∙ c.in_ok-values.ensures ∙ ap (λ cs. first_elements cs n) c.deref.ensures.value)))

pub returns-then-not-is_there : goal.returns-then-not-is_there
returns-then-not-is_there c =
    let m = c.args.memory.now in
    let there : c.in_ok-is_there.is_there ≡ false = search rules in
    λ ws. clear_wrong (known_of c.args.frame.now m) ws c.args.place.0 c.temp.result c.temp.ensures c.in-Pointer.target c.in-Pointer.is c.args.layout.now
    c.args.count (λ d. sym (c.in_ok-is_there.ensures.laid d) ∙ there)
