use Rattle.std.proofs.Common.{◌≡◌, sym, ap, Option, None}
use Rattle.source_meaning.specs.Places.{bound_to}
use Rattle.source_meaning.specs.Programs.{world_of}
use Rattle.source_meaning.specs.Steps.{Entity}
use Rattle.source_lowering.specs.Lowered.{get_by}
use Rattle.lower_checks.proofs.Nothing.{emitted_none}
use Rattle.lower_checks.proofs.variable.lower_get_global.Goals as goal

-- there is nothing of that name
pub returns-in-None-clause-code : goal.returns-in-None-clause-code
returns-in-None-clause-code c sound =
    let global = bound_to (world_of c.args.program.now).globals c.args.name.now in
    emitted_none c.args.body.now (get_by None global c.args.to.0) sound
    (ap (λ (g : Option Entity). get_by None g c.args.to.0) (sym c.in-None.ensures.named))
