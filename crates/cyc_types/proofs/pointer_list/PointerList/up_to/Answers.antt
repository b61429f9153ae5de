use Rattle.std.proofs.Common.{◌∙◌, ◌++◌, ap, sym, take}
use Rattle.cyc_types.proofs.TwoParts.{take_both}
use Rattle.cyc_types.proofs.pointer_list.PointerList.up_to.Goals as goal

pub returns : goal.returns
returns c =
    let inner = c.args.self.inner.now in
    let outer = c.args.self.outer.now in
    rw (c.first.ensures, c.first-2.ensures, c.saturating_sub-more.ensures) (sym (take_both c.args.count inner outer))
