use Rattle.std.proofs.Common.{◌≡◌, IfOk, Some, ap, refl, subst, sym, ◌∙◌}
use Rattle.std.specs.Prelude.{MatchOption}
use Rattle.cyc_types.specs.Layers.{pointer_to}
use Rattle.cyc_types.specs.Regions.{region_of}
use Rattle.cyc_types.specs.Types.{static_type}
use Rattle.check_declarations.specs.Operands.{outside_unique}
use Rattle.check_declarations.proofs.Aliases.{other_aliased, unique_aliased}
use Rattle.check_declarations.proofs.alias.aliased.Goals as goal

pub returns-in-Some-Unique : goal.returns-in-Some-Unique
returns-in-Some-Unique c =
    let of = c.args.of in
    let to = static_type c.into_pointee.result in
    let outer = sym c.outer.ensures ∙ c.in-Some-Unique.is ∙ ap Some c.in-Some-Unique.field-0-is in
    let is = subst (λ o. MatchOption o (to ≡ static_type of) (λ l. static_type of ≡ pointer_to l to)) outer c.into_pointee.ensures in
    subst (λ y. IfOk c.under.result (λ t. static_type t ≡ y))
    (unique_aliased c.args.region (static_type of) to c.in-Some-Unique.may_be_null c.single-bound.result c.single-bound.ensures is) c.under.ensures

pub returns-in-Some-Thin : goal.returns-in-Some-Thin
returns-in-Some-Thin c =
    other_aliased (region_of c.args.region) c.args.of (Some c.in-Some-Thin.field-0) (sym c.outer.ensures ∙ c.in-Some-Thin.is)
    (ap (λ l. outside_unique (Some l)) c.in-Some-Thin.field-0-is)

pub returns-in-Some-Fat : goal.returns-in-Some-Fat
returns-in-Some-Fat c =
    other_aliased (region_of c.args.region) c.args.of (Some c.in-Some-Fat.field-0) (sym c.outer.ensures ∙ c.in-Some-Fat.is)
    (ap (λ l. outside_unique (Some l)) c.in-Some-Fat.field-0-is)

pub returns-in-None : goal.returns-in-None
returns-in-None c = other_aliased (region_of c.args.region) c.args.of _ (sym c.outer.ensures ∙ c.in-None.is) refl
