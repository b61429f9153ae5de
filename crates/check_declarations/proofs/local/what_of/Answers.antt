use Rattle.std.proofs.Common.{ap, subst, sym, ◌∙◌}
use Rattle.cyc_types.specs.Regions.{region_of}
use Rattle.cyc_types.specs.Types.{static_type}
use Rattle.check_scopes.specs.Means.{WhatIs}
use Rattle.check_scopes.specs.declared.locals.What.TheVariants as local
use Rattle.source_typing.specs.Declarations.{what_of}
use Rattle.check_faults.specs.Verdicts.{short_of}
use Rattle.check_heads.proofs.Answered.{of_short}
use Rattle.check_declarations.proofs.Declaring.{unjudged_what, wrong_what}
use Rattle.check_declarations.proofs.local.what_of.Goals as goal

pub returns-in-Of : goal.returns-in-Of
returns-in-Of c t e =
    let r = region_of c.args.frame in
    subst (λ u. WhatIs (what_of r c.args.count u) c.what_of_type.result)
    (sym (of_short t (static_type c.in-Of.of) (ap (short_of static_type) (sym c.in-Of.is) ∙ e))) c.what_of_type.ensures

pub returns-in-Wrong : goal.returns-in-Wrong
returns-in-Wrong c t e =
    let h = ap (short_of static_type) (sym c.in-Wrong.is) ∙ e in
    subst (λ w. WhatIs w local.NotKnown) (sym (wrong_what (region_of c.args.frame) c.args.count t _ h)) WhatIs.NotKnown

pub returns-in-NotJudged : goal.returns-in-NotJudged
returns-in-NotJudged c t e =
    let h = ap (short_of static_type) (sym c.in-NotJudged.is) ∙ e in
    subst (λ w. WhatIs w local.Untyped) (sym (unjudged_what (region_of c.args.frame) c.args.count t h)) WhatIs.Untyped
