use Rattle.std.proofs.Common.{sym}
use Rattle.cyc_types.proofs.TwoParts.{drop_both}
use Rattle.cyc_types.proofs.pointer_list.PointerList.from.Goals as goal

pub returns : goal.returns
returns c =
    let inner = c.args.self.inner.now in
    let outer = c.args.self.outer.now in
    rw (c.behind.ensures, c.behind-2.ensures, c.saturating_sub-more.ensures) (sym (drop_both c.args.count inner outer))
