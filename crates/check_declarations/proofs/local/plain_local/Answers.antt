use Rattle.std.proofs.Common.{subst}
use Rattle.cyc_types.specs.Regions.{region_of}
use Rattle.check_scopes.specs.Means.{WhatIs}
use Rattle.check_scopes.specs.declared.locals.What.TheVariants as local
use Rattle.source_typing.specs.Tables.{Stored}
use Rattle.check_declarations.proofs.local.plain_local.Goals as goal

pub returns : goal.returns
returns c = λ fs h.
    let of = c.plain.result in
    let frame = c.args.context.frame in
    record {
      fault = h;
      what = subst (λ t. WhatIs (Stored t (region_of frame)) (local.Variable of frame)) c.plain.ensures (WhatIs.Variable of frame);
    }
