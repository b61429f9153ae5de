use Rattle.std.proofs.Common.{Bor, List, Some, ap, subst, sym, ℕ, ◌∙◌}
use Rattle.std.specs.Prelude.{Option, option_map}
use Rattle.cyc_types.specs.Regions.{region_of}
use Rattle.cyc_types.specs.Tags.{member_of}
use Rattle.cyc_types.specs.declared.tag.Member.{Member}
use Rattle.check_scopes.specs.Means.{WhatIs}
use Rattle.check_scopes.specs.declared.locals.What.TheVariants as local
use Rattle.cyc_tree.specs.View.{name_tree}
use Rattle.source_typing.specs.Statements.{bound_what}
use Rattle.check_declarations.specs.Switching.{part_named, switched_in}
use Rattle.check_declarations.proofs.members.bound_member.Goals as goal

pub returns-in-None : goal.returns-in-None
returns-in-None c = λ g has.
    let union = c.args.union.now in
    let u = Some (switched_in union) in
    subst (λ p. WhatIs (bound_what (region_of c.args.frame) u p) local.Untyped)
    (ap (λ (o : Option (Bor Member)). option_map (λ m. member_of m.now) o) (sym c.in-None.is) ∙ c.member.ensures
    ∙ ap (λ (x : List ℕ). part_named (Some union) x) c.deref.ensures.value
    ∙ has.parts (name_tree c.args.field.now).text)
    WhatIs.Untyped
