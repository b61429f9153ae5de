use Rattle.std.proofs.Common.{◌≡◌, false, sym, suc, true, ap, refl, ◌∷◌, ◌∙◌}
use Rattle.std.specs.Prelude.{None, Option, Some, is_none, is_some}
use Rattle.cyc_tree.specs.View.{name_tree}
use Rattle.cyc_types.specs.Regions.{region_of}
use Rattle.source_typing.specs.Declarations.{name_added}
use Rattle.source_typing.specs.Functions.{Variables, variables}
use Rattle.source_typing.specs.Regions.{Region}
use Rattle.source_typing.specs.Written.{find_region}
use Rattle.check_types.proofs.variables.RegionVariables.add_named.Goals as goal

none_is : (o : Option Region) → is_none o ≡ true → is_some o ≡ false
none_is None e = refl
none_is (Some r) e = absurd cc

pub returns-clause-after : goal.returns-clause-after
returns-clause-after c h =
    let n = name_tree c.args.name.now in
    let old : Variables = c.args.self.now in
    let in_ : Variables = variables c.self.inside.names c.self.inside.count in
    let r = c.in_ok-region.region in
    let view : in_ ≡ variables old.names (suc old.count) = c.self.view_is ∙ c.in_ok-region.ensures.after in
    ap (λ ns. variables ns c.self.inside.count) (c.in_ok-add.ensures.added n (sym c.deref.ensures.value))
    ∙ ap (λ (v : Variables). variables (name_added (is_some (find_region v.names n.text)) n (region_of r) v.names) v.count) view
    ∙ ap (λ b. variables (name_added b n (region_of r) old.names) (suc old.count)) (none_is (find_region old.names n.text) h)
    ∙ ap (λ q. variables (record { name = n.text; id = q } ∷ old.names) (suc old.count)) c.in_ok-region.ensures.found
