use Rattle.std.proofs.Common.{subst, sym}
use Rattle.std.specs.Prelude.{option_map}
use Rattle.cyc_tree.specs.View.{name_tree}
use Rattle.cyc_types.specs.Regions.{region_of}
use Rattle.check_scopes.specs.Means.{WhatIs}
use Rattle.check_scopes.specs.declared.locals.What.TheVariants as local
use Rattle.source_typing.specs.Statements.{bound_what, parts_of_chosen}
use Rattle.source_typing.specs.Tables.{part_in}
use Rattle.check_declarations.specs.Switching.{switched_in}
use Rattle.check_declarations.proofs.members.bound_what.Goals as goal

pub returns-in-None : goal.returns-in-None
returns-in-None c = λ g has.
    let x = (name_tree c.args.field.now).text in
    subst (λ o. let u = option_map switched_in o in WhatIs (bound_what (region_of c.args.frame) u (part_in (parts_of_chosen g u) x)) local.Untyped)
    (sym c.in-None.is) WhatIs.Untyped
