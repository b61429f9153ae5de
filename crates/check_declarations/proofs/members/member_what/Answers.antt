use Rattle.std.proofs.Common.{subst, sym}
use Rattle.std.specs.Prelude.{Option, option_map}
use Rattle.cyc_types.specs.Regions.{region_of, regions_of}
use Rattle.cyc_types.specs.Types.{static_type}
use Rattle.cyc_types.specs.declared.ctype.CType.{CType}
use Rattle.check_scopes.specs.Means.{WhatIs}
use Rattle.check_scopes.specs.declared.locals.What.TheVariants as local
use Rattle.source_typing.specs.Statements.{part_what}
use Rattle.source_typing.specs.Tables.{Stored}
use Rattle.check_declarations.proofs.members.member_what.Goals as goal

pub returns-in_ok-renamed-in-Some : goal.returns-in_ok-renamed-in-Some
returns-in_ok-renamed-in-Some c =
    let frame = c.args.frame in
    let of = c.in_ok-renamed-in-Some.renamed in
    subst (λ (o : Option CType). WhatIs (part_what (region_of frame) (regions_of c.args.regions.now) (option_map static_type o)) (local.Variable of frame))
    (sym c.in-Some.is)
    (subst (λ t. WhatIs (Stored t (region_of frame)) (local.Variable of frame)) c.in_ok-renamed-in-Some.ensures (WhatIs.Variable of frame))

pub returns-in-None : goal.returns-in-None
returns-in-None c =
    subst (λ (o : Option CType). WhatIs (part_what (region_of c.args.frame) (regions_of c.args.regions.now) (option_map static_type o)) local.Untyped)
    (sym c.in-None.is) WhatIs.Untyped
