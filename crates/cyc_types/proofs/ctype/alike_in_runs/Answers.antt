use Rattle.std.proofs.Common.{◌<◌, ◌∙◌, sym, arith}
use Rattle.cyc_types.specs.Shared.{listed}
use Rattle.cyc_types.proofs.Runs.{runs_alike}
use Rattle.cyc_types.proofs.ctype.alike_in_runs.Goals as goal

pub returns : goal.returns
returns c =
    let n = c.common-count.result in
    let mine = c.args.mine in
    let theirs = c.args.theirs in
    let some : 0 < n = omega (arith, c.if-count-eq0.false) in
    let ls = listed mine.layers in
    let ks = listed theirs.layers in
    let first = c.common-count.ensures.mine ls c.requires.mine in
    let second = c.common-count.ensures.theirs ks c.requires.theirs in
    c.alike_under-2.ensures
    ∙ (rw (c.compare-first.ensures, c.from.ensures, c.from-2.ensures)
    (sym (runs_alike mine.run.steps n mine.run.pointer theirs.run.pointer ls ks c.args.inner some first second)))
