use Rattle.std.proofs.Common.{sym, ◌∙◌}
use Rattle.source_typing.specs.Tags.{settled_alone}
use Rattle.check_faults.proofs.Shortened.{after_of, after_unjudged, after_wrong}
use Rattle.check_types.specs.Written.{partial_type}
use Rattle.check_types.proofs.heading.settled_alone.Goals as goal

pub returns-in_ok-settled-in-Of : goal.returns-in_ok-settled-in-Of
returns-in_ok-settled-in-Of c w e =
    c.in_ok-settled-in-Of.ensures ∙ sym (after_of partial_type c.args.of w (settled_alone c.args.at) e c.in-Of.of c.in-Of.is)

pub returns-in-Wrong : goal.returns-in-Wrong
returns-in-Wrong c w e = sym (after_wrong partial_type c.args.of w (settled_alone c.args.at) e c.in-Wrong.fault c.in-Wrong.is)

pub returns-in-NotJudged : goal.returns-in-NotJudged
returns-in-NotJudged c w e = sym (after_unjudged partial_type c.args.of w (settled_alone c.args.at) e c.in-NotJudged.is)
