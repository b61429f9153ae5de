use Rattle.std.proofs.Common.{◌≡◌, ◌<◌, ℕ, List, length, arith, subst, sym, true, false, ◌∙◌}
use Rattle.std.specs.Prelude.{slice_set}
use Rattle.std.specs.List.{Contains}
use Rattle.std.proofs.lemmas.List.{length-map}
use Rattle.stack_needs.specs.Graph.{IsOnPath, called_by, rows_of}
use Rattle.stack_needs.proofs.Paths.{bit_at, closed, fewer_unseen, one_further, row_at}
use Rattle.stack_needs.proofs.recursion.recursion_from.Goals as goal

pub path-smaller : goal.path-smaller
path-smaller c =
    let on = c.path.invariant in
    let low : c.path.at < length c.path.seen.items = omega (arith, on.long, on.below) in
    fewer_unseen c.path.seen.items c.path.at low (bit_at c.path.seen.items c.path.at c.index.result.now false low c.index.ensures c.path-test.true)

pub path-preserved : goal.path-preserved
path-preserved c =
    let on = c.path.invariant in
    let calls = rows_of c.args.calls.now in
    let long = length-map c.args.calls.now (λ r. r.items) in
    let row : called_by calls c.path.at ≡ c.as_slice.result.now =
    row_at c.args.calls.now c.path.at c.index-calls-at.result (omega (arith, on.below)) c.index-calls-at.is ∙ sym c.as_slice.ensures.value in
    let has : Contains (called_by calls c.path.at) c.in-Some.called =
    subst (λ (ks : List ℕ). Contains ks c.in-Some.called) (sym row) c.in-Some.ensures.found.0 in
    let low = c.requires.numbered c.path.at c.in-Some.called has in
    subst (λ (path : List ℕ). IsOnPath calls c.args.needs.now c.args.from c.in-Some.called path (slice_set c.path.seen.items c.path.at true))
    (sym c.in_ok-push.ensures.items)
    (one_further calls c.args.needs.now c.args.from c.path.at c.path.path.items c.path.seen.items on c.in-Some.called has c.in-Some.ensures.found.1
    (omega arith))

pub returns : goal.returns
returns c =
    let on = c.path.invariant in
    closed (rows_of c.args.calls.now) c.args.needs.now c.args.from c.path.at c.path.path.items c.path.seen.items on
    (bit_at c.path.seen.items c.path.at c.index.result.now true (omega (arith, on.long, on.below)) c.index.ensures c.path-test.false)
