use Rattle.std.proofs.Common.{◌≡◌, ap, subst, ◌∙◌}
use Rattle.std.specs.Prelude.{IfOk}
use Rattle.cyc_tree.specs.View.{effect_tree}
use Rattle.cyc_types.specs.Regions.{region_of, regions_of}
use Rattle.source_typing.specs.Functions.{effect_of}
use Rattle.check_heads.specs.Bodies.{types_of}
use Rattle.check_heads.specs.Used.{IsUsed, keys_of}
use Rattle.check_heads.proofs.head.effect_in.Goals as goal

pub returns : goal.returns
returns c =
    let ps = c.args.parameters.now.items.items in
    let keys : regions_of c.as_slice-2.result.now ≡ keys_of (types_of ps) =
    ap (λ rs. regions_of rs) c.as_slice-2.ensures.value ∙ c.in_ok-keys.ensures ∙ ap (λ qs. keys_of (types_of qs)) c.as_slice.ensures.value in
    subst
    (λ ks. IfOk c.effect_of.result (IsUsed region_of (effect_of c.args.lenient c.args.parameters.now.variables ks (effect_tree c.args.effect.now))))
    keys c.effect_of.ensures
