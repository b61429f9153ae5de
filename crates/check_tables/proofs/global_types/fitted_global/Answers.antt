use Rattle.std.proofs.Common.{ap, sym, ◌∙◌}
use Rattle.std.specs.Prelude.{Bool}
use Rattle.cyc_types.specs.Types.{static_type}
use Rattle.source_typing.specs.Globals.{fitting_global}
use Rattle.source_typing.specs.Scope.{at_item}
use Rattle.check_faults.specs.Verdicts.{shortened}
use Rattle.check_tables.proofs.GlobalTypes.{global_fits}
use Rattle.check_tables.proofs.global_types.fitted_global.Goals as goal

pub returns-then-is_unnamed : goal.returns-then-is_unnamed
returns-then-is_unnamed c lenient g known =
    let s = c.args.structs in
    let t = static_type c.args.of in
    c.fitted.ensures
    ∙ ap (λ v. shortened v) (global_fits s.tables.now g lenient c.args.item c.args.at c.args.count t known.tables)
    ∙ ap (λ (b : Bool). shortened (fitting_global (at_item lenient g c.args.item) c.args.at c.args.count b t)) (sym c.if-is_unnamed.true)
