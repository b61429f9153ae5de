use Rattle.std.proofs.Common.{subst, sym}
use Rattle.cyc_types.specs.Regions.{region_of}
use Rattle.cyc_types.specs.Types.{static_type}
use Rattle.check_scopes.specs.Means.{WhatIs}
use Rattle.check_scopes.specs.declared.locals.What.TheVariants as local
use Rattle.source_typing.specs.Declarations.{what_of}
use Rattle.source_typing.specs.Verdicts.{Of}
use Rattle.check_declarations.proofs.local.what_of_type.Goals as goal

pub returns-in-Some : goal.returns-in-Some
returns-in-Some c =
    subst (λ n. WhatIs (what_of (region_of c.args.frame) n (Of (static_type c.args.of))) (local.Array c.args.of c.args.frame)) (sym c.in-Some.is)
    (WhatIs.Array c.args.of c.args.frame)

pub returns-in-None : goal.returns-in-None
returns-in-None c =
    subst (λ n. WhatIs (what_of (region_of c.args.frame) n (Of (static_type c.args.of))) (local.Variable c.args.of c.args.frame)) (sym c.in-None.is)
    (WhatIs.Variable c.args.of c.args.frame)
