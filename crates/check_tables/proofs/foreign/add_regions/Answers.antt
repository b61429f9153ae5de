use Rattle.std.proofs.Common.{◌+◌, List, ap, arith, drop, map, sym, ◌∙◌}
use Rattle.std.proofs.lemmas.List.{drop_all}
use Rattle.cyc_tree.specs.View.{pointer_tree}
use Rattle.cyc_tree.specs.declared.name.Pointer.{Pointer}
use Rattle.source_typing.specs.Written.{find_region}
use Rattle.check_tables.specs.Globals.{foreign_in, or_region, spots_in}
use Rattle.check_tables.proofs.GlobalTypes.{no_more}
use Rattle.check_tables.proofs.Items.{next_of}
use Rattle.check_tables.proofs.foreign.add_regions.Goals as goal

pub each-preserved : goal.each-preserved
each-preserved c x =
    let ps = c.args.pointers.now in
    let i = c.each.pointer-index in
    c.in_ok-add_region.ensures (spots_in (map pointer_tree (drop (i + 1) ps))) x
    ∙ ap (λ (l : List Pointer). or_region (find_region c.each.names x) (foreign_in (spots_in (map pointer_tree l)) x))
    (sym (next_of ps i c.pointer-item.result c.each-test.true c.pointer-item.is))
    ∙ c.each.invariant x

pub returns : goal.returns
returns c x =
    let ps = c.args.pointers.now in
    let i = c.each.pointer-index in
    sym (no_more (find_region c.each.names x))
    ∙ ap (λ (l : List Pointer). or_region (find_region c.each.names x) (foreign_in (spots_in (map pointer_tree l)) x))
    (sym (drop_all i ps (omega (arith, c.each-test.false))))
    ∙ c.each.invariant x
