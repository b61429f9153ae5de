use Rattle.std.proofs.Common.{ap, sym, ◌∙◌, ◌+◌}
use Rattle.cyc_types.specs.Pointers.{follows}
use Rattle.cyc_types.proofs.Runs.{after_more, begins_all, begins_more}
use Rattle.cyc_types.proofs.run.count_from.Goals as goal

pub returns-then-not-is : goal.returns-then-not-is
returns-then-not-is c =
    let i = c.each.layer-index in
    rw c.each.invariant.counted (begins_all c.args.steps i i c.args.first c.args.layers.now c.each.invariant.begins)

pub returns-in-None : goal.returns-in-None
returns-in-None c =
    let i = c.each.layer-index in
    let same = sym c.each.invariant.next ∙ c.is.ensures c.if-not-is.false in
    let more = begins_more c.args.steps i c.args.first _ c.args.layers.now c.each-test.true same c.each.invariant.begins in
    rw c.each.invariant.counted (begins_all c.args.steps (i + 1) (i + 1) c.args.first c.args.layers.now more)

pub each-preserved : goal.each-preserved
each-preserved c = record {
  counted = ap (λ n. n + 1) c.each.invariant.counted;
  begins =
      begins_more c.args.steps c.each.layer-index c.args.first _ c.args.layers.now c.each-test.true
      (sym c.each.invariant.next ∙ c.is.ensures c.if-not-is.false) c.each.invariant.begins;
  next = after_more c.args.steps c.each.layer-index c.args.first c.in-Some.pointer (c.in-Some.ensures ∙ ap (follows c.args.steps) c.each.invariant.next);
}
