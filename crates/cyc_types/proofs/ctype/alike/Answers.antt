use Rattle.std.proofs.Common.{ap, sym, ◌∙◌}
use Rattle.cyc_types.specs.Bases.{base_type}
use Rattle.cyc_types.specs.Likeness.{likeness_of}
use Rattle.cyc_types.specs.Shared.{listed}
use Rattle.cyc_types.proofs.Pointers.{alike_under, different_under}
use Rattle.cyc_types.proofs.ctype.alike.Goals as goal

pub returns-then-len : goal.returns-then-len
returns-then-len c =
    let ls = listed c.args.pointers.layers in
    let ks = listed c.args.others.layers in
    sym (ap likeness_of (different_under ls ks c.args.mine.now c.args.theirs.now (λ e. c.if-len.true (c.len.ensures ∙ e ∙ sym c.len-2.ensures))))

pub returns : goal.returns
returns c =
    let ls = listed c.args.pointers.layers in
    let ks = listed c.args.others.layers in
    c.alike_in_runs.ensures ∙ (rw c.compare-inner.ensures
    (sym (alike_under ls ks (base_type c.args.mine.now) (base_type c.args.theirs.now) (sym c.len.ensures ∙ c.if-len.false ∙ c.len-2.ensures))))
