use Rattle.std.proofs.Common.{◌≡◌, ◌+◌, ◌∷◌, ap, append_assoc, drop, sym, ◌∙◌}
use Rattle.std.specs.Prelude.{◌++◌}
use Rattle.std.proofs.lemmas.List.{drop_more}
use Rattle.cyc_types.specs.Regions.{regions_of}
use Rattle.check_heads.specs.Bodies.{types_of}
use Rattle.check_heads.specs.Heads.{known_static}
use Rattle.check_heads.specs.Used.{keys_of, known_key, listed}
use Rattle.check_heads.proofs.keys.key_regions.Goals as goal

pub each-preserved : goal.each-preserved
each-preserved c =
    let ps = c.args.parameters.now in
    let i = c.each.parameter-index in
    let x = c.parameter-item.result in
    let was = regions_of c.each.regions.items in
    let rest = keys_of (types_of (drop (i + 1) ps)) in
    let e : drop i ps ≡ x ∷ drop (i + 1) ps = drop_more ps i x c.each-test.true ∙ ap (λ y. y ∷ drop (i + 1) ps) (sym c.parameter-item.is) in
    ap (λ rs. rs ++ rest) c.in_ok-add_key.ensures
    ∙ append_assoc was (listed (known_key (known_static x.of))) rest
    ∙ sym (ap (λ qs. was ++ keys_of (types_of qs)) e)
    ∙ c.each.invariant
