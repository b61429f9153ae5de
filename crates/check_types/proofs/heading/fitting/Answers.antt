use Rattle.std.proofs.Common.{sym, ◌∙◌}
use Rattle.cyc_types.specs.Types.{static_type}
use Rattle.check_faults.proofs.Shortened.{after_of, after_unjudged, after_wrong}
use Rattle.check_types.specs.Reading.{if_scalar}
use Rattle.check_types.proofs.heading.fitting.Goals as goal

pub returns-in-Of : goal.returns-in-Of
returns-in-Of c w e =
    c.fitted.ensures ∙ sym (after_of static_type c.args.of w (if_scalar c.args.takes_void c.args.at) e c.in-Of.of c.in-Of.is)

pub returns-in-Wrong : goal.returns-in-Wrong
returns-in-Wrong c w e = sym (after_wrong static_type c.args.of w (if_scalar c.args.takes_void c.args.at) e c.in-Wrong.fault c.in-Wrong.is)

pub returns-in-NotJudged : goal.returns-in-NotJudged
returns-in-NotJudged c w e = sym (after_unjudged static_type c.args.of w (if_scalar c.args.takes_void c.args.at) e c.in-NotJudged.is)
