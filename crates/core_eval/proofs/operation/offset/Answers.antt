use Rattle.std.proofs.Common.{◌≡◌, arith}
use Rattle.core_meaning.specs.Core as core
use Rattle.core_eval.specs.declared.value.Value.TheVariants as value
use Rattle.core_eval.specs.Values.{content_of}
use Rattle.core_eval.specs.Blocks.{stored_of}
use Rattle.core_eval.specs.Pendings.{Execute}
use Rattle.core_eval.specs.Standing.{known_of}
use Rattle.core_eval.proofs.Leading.{leads_as, offset_leads, lead_moves, lead_wrong}
use Rattle.core_eval.proofs.Answered.{given_here}
use Rattle.core_eval.proofs.operation.offset.Goals as goal

pub returns-in-Some : goal.returns-in-Some
returns-in-Some c =
    let f = c.args.frame.now in
    let f' = c.give.new.frame in
    let m = c.args.memory.now in
    let p = c.in-Pointer.place in
    let o = core.Offset c.args.to.0 c.args.from.0 c.args.cells c.args.bytes in
    let further : c.from.result ≡ c.args.cells = omega arith in
    let later : c.from-2.result ≡ c.args.bytes = omega arith in
    given_here c.give.result f f' c.args.to.0 (content_of (value.Pointer c.in-Some.there)) (Execute (core.Do o)) m c.give.ensures.next
    c.give.ensures.gives c.give.ensures.base
    (λ ws gives. lead_moves (known_of f m) ws o c.args.to.0 p c.args.cells c.args.bytes
    (offset_leads (known_of f m) ws c.args.from.0 c.temp.result c.temp.ensures p c.in-Pointer.is c.args.to.0 c.args.cells c.args.bytes)
    f'.temps.items c.in-Some.there
    (λ d. leads_as (stored_of m) p c.args.cells c.from.result c.args.bytes c.from-2.result _ c.in_ok-there.field-0 further later
    (c.in_ok-there.ensures.leads d) c.in-Some.is) gives)

pub returns-in-None : goal.returns-in-None
returns-in-None c =
    let f = c.args.frame.now in
    let m = c.args.memory.now in
    let p = c.in-Pointer.place in
    let further : c.from.result ≡ c.args.cells = omega arith in
    let later : c.from-2.result ≡ c.args.bytes = omega arith in
    λ ws. lead_wrong (known_of f m) ws (core.Offset c.args.to.0 c.args.from.0 c.args.cells c.args.bytes) c.args.to.0 p c.args.cells c.args.bytes
    (offset_leads (known_of f m) ws c.args.from.0 c.temp.result c.temp.ensures p c.in-Pointer.is c.args.to.0 c.args.cells c.args.bytes)
    (λ d. leads_as (stored_of m) p c.args.cells c.from.result c.args.bytes c.from-2.result _ c.in_ok-there.field-0 further later
    (c.in_ok-there.ensures.leads d) c.in-None.is)
    (c.in_ok-there.ensures.recalls c.in-None.is)
