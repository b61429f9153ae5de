use Rattle.std.proofs.Common.{ap, subst, sym, ◌∙◌}
use Rattle.cyc_types.specs.Regions.{region_of}
use Rattle.check_scopes.specs.Means.{WhatIs}
use Rattle.check_scopes.specs.declared.locals.What.TheVariants as local
use Rattle.source_typing.specs.Declarations.{what_of}
use Rattle.check_faults.specs.Faults.{fault_of, faults_of}
use Rattle.check_declarations.proofs.Declaring.{what_unsound}
use Rattle.check_declarations.proofs.local.judged_as.Goals as goal

pub returns-in-Some : goal.returns-in-Some
returns-in-Some c fs t e h =
    let found = ap faults_of (sym c.in-Some.is) ∙ e in
    let unknown = what_unsound fs (what_of (region_of c.args.frame) c.args.count t) (fault_of c.in-Some.fault) found in
    record { fault = found; what = subst (λ w. WhatIs w local.NotKnown) (sym unknown) WhatIs.NotKnown }
