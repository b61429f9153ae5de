use Rattle.std.proofs.Common.{List, ap, ◌∙◌, map, subst, sym}
use Rattle.source_typing.specs.Regions.{Region}
use Rattle.check_regions.specs.Fields.{pair_of}
use Rattle.check_regions.specs.Walked.{AreRows, rows_of}
use Rattle.check_regions.specs.Ways.{AreKept, all_fall}
use Rattle.check_regions.proofs.Rows.{bounds_in_rows}
use Rattle.check_regions.proofs.bounds.Bounds.of.Goals as goal

pub invariant_of-result : goal.invariant_of-result
invariant_of-result c =
    let bs : List (Region × Region) = map pair_of c.args.bounds.now in
    let rows : AreRows (rows_of c.in_ok-rows.rows.items) bs =
    subst (λ rows. AreRows rows bs) (sym c.in_ok-rows.ensures) (bounds_in_rows bs) in
    subst (λ gs. AreKept (map pair_of gs) (rows_of c.in_ok-rows.rows.items) c.in_ok-ways.ways.items c.all_fall-falls.result)
    (sym c.in_ok-given.ensures.items)
    record {
      rows_are = rows;
      ways_are = c.in_ok-ways.ensures bs (subst (λ xs. AreRows (rows_of xs) bs) (sym c.as_slice.ensures.value) rows);
      all_are = c.all_fall-falls.ensures ∙ ap (λ ways. all_fall ways bs) c.as_slice-2.ensures.value;
    }
