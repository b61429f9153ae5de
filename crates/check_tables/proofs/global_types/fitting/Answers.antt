use Rattle.std.proofs.Common.{sym, ◌∙◌}
use Rattle.cyc_types.specs.Types.{static_type}
use Rattle.source_typing.specs.Globals.{fitting_global}
use Rattle.source_typing.specs.Scope.{at_item}
use Rattle.check_faults.proofs.Shortened.{after_of, after_unjudged, after_wrong}
use Rattle.check_tables.proofs.global_types.fitting.Goals as goal

pub returns-in-Of : goal.returns-in-Of
returns-in-Of c lenient g w known e =
    let rule = fitting_global (at_item lenient g c.args.item) c.args.at c.args.count c.args.is_unnamed in
    c.fitted_global.ensures lenient g known ∙ sym (after_of static_type c.args.of w rule e c.in-Of.of c.in-Of.is)

pub returns-in-Wrong : goal.returns-in-Wrong
returns-in-Wrong c lenient g w known e =
    let rule = fitting_global (at_item lenient g c.args.item) c.args.at c.args.count c.args.is_unnamed in
    sym (after_wrong static_type c.args.of w rule e c.in-Wrong.fault c.in-Wrong.is)

pub returns-in-NotJudged : goal.returns-in-NotJudged
returns-in-NotJudged c lenient g w known e =
    let rule = fitting_global (at_item lenient g c.args.item) c.args.at c.args.count c.args.is_unnamed in
    sym (after_unjudged static_type c.args.of w rule e c.in-NotJudged.is)
