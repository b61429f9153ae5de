use Rattle.std.proofs.Common.{◌∷◌, ap, sym, true, ◌∙◌}
use Rattle.std.specs.Prelude.{option_map}
use Rattle.cyc_tree.specs.View.{region_tree}
use Rattle.source_typing.specs.Written.{find_region, spot}
use Rattle.check_tables.specs.Globals.{foreign_in, or_region}
use Rattle.check_tables.proofs.foreign.add_region.Goals as goal

pub returns-in_ok-add_name-in-Some : goal.returns-in_ok-add_name-in-Some
returns-in_ok-add_name-in-Some c ss x =
    c.in_ok-add_name-in-Some.ensures true ss x
    ∙ ap (λ o. or_region (find_region c.args.names.now x) (foreign_in (spot true (option_map region_tree o) ∷ ss) x)) (sym c.in-Some.is)
