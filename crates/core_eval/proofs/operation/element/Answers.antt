use Rattle.std.proofs.Common.{◌≡◌, ◌*◌, ℕ, ap, ◌∙◌, arith}
use Rattle.core_meaning.specs.Core as core
use Rattle.core_eval.specs.declared.value.Value.TheVariants as value
use Rattle.core_eval.specs.Values.{content_of}
use Rattle.core_eval.specs.Blocks.{stored_of}
use Rattle.core_eval.specs.Pendings.{Execute}
use Rattle.core_eval.specs.Standing.{known_of}
use Rattle.core_eval.proofs.Leading.{leads_as, element_leads, lead_moves, lead_wrong}
use Rattle.core_eval.proofs.Answered.{given_here}
use Rattle.core_eval.proofs.operation.element.Goals as goal

product_as : (n n' size size' : ℕ) → n' ≡ n → size' ≡ size → n' * size' ≡ n * size
product_as n n' size size' same as_big = ap (λ (k : ℕ). k * size') same ∙ ap (λ (k : ℕ). n * k) as_big

pub returns-in-Some : goal.returns-in-Some
returns-in-Some c =
    let f = c.args.frame.now in
    let f' = c.give.new.frame in
    let m = c.args.memory.now in
    let p = c.in-Pointer.place in
    let n = c.in-Word.count in
    let o = core.Element c.args.to.0 c.args.from.0 c.args.index.0 c.args.cells c.args.bytes in
    let further = product_as n c.from.result c.args.cells c.from-2.result (omega arith) (omega arith) in
    let later = product_as n c.from-3.result c.args.bytes c.from-4.result (omega arith) (omega arith) in
    given_here c.give.result f f' c.args.to.0 (content_of (value.Pointer c.in-Some.there)) (Execute (core.Do o)) m c.give.ensures.next
    c.give.ensures.gives c.give.ensures.base
    (λ ws gives. lead_moves (known_of f m) ws o c.args.to.0 p (n * c.args.cells) (n * c.args.bytes)
    (element_leads (known_of f m) ws c.args.from.0 c.temp.result c.temp.ensures p c.in-Pointer.is c.args.index.0 c.temp-2.result c.temp-2.ensures
    c.args.to.0 c.args.cells c.args.bytes n c.in-Word.is)
    f'.temps.items c.in-Some.there
    (λ d. leads_as (stored_of m) p (n * c.args.cells) (c.from.result * c.from-2.result) (n * c.args.bytes) (c.from-3.result * c.from-4.result) _
    c.in_ok-there.field-0 further later (c.in_ok-there.ensures.leads d) c.in-Some.is) gives)

pub returns-in-None : goal.returns-in-None
returns-in-None c =
    let f = c.args.frame.now in
    let m = c.args.memory.now in
    let p = c.in-Pointer.place in
    let n = c.in-Word.count in
    let o = core.Element c.args.to.0 c.args.from.0 c.args.index.0 c.args.cells c.args.bytes in
    let further = product_as n c.from.result c.args.cells c.from-2.result (omega arith) (omega arith) in
    let later = product_as n c.from-3.result c.args.bytes c.from-4.result (omega arith) (omega arith) in
    λ ws. lead_wrong (known_of f m) ws o c.args.to.0 p (n * c.args.cells) (n * c.args.bytes)
    (element_leads (known_of f m) ws c.args.from.0 c.temp.result c.temp.ensures p c.in-Pointer.is c.args.index.0 c.temp-2.result c.temp-2.ensures
    c.args.to.0 c.args.cells c.args.bytes n c.in-Word.is)
    (λ d. leads_as (stored_of m) p (n * c.args.cells) (c.from.result * c.from-2.result) (n * c.args.bytes) (c.from-3.result * c.from-4.result) _
    c.in_ok-there.field-0 further later (c.in_ok-there.ensures.leads d) c.in-None.is)
    (c.in_ok-there.ensures.recalls c.in-None.is)
