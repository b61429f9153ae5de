use Rattle.std.proofs.Common.{◌≡◌, ◌-◌, ◌+◌, arith, ap, drop, length, sym, ◌∙◌}
use Rattle.std.specs.Prelude.{None, Option, Some, option_map}
use Rattle.std.proofs.lemmas.List.{length-drop}
use Rattle.source_typing.specs.Missing.{outer_region}
use Rattle.source_typing.specs.Types.{StaticType}
use Rattle.cyc_types.proofs.Converting.{pointed_more}
use Rattle.cyc_types.specs.Layers.{pointed, pointer_to}
use Rattle.cyc_types.specs.Types.{static_type}
use Rattle.cyc_types.specs.declared.reach.Reach.TheVariants.{MayBeNull}
use Rattle.check_types.specs.Settling.{all_from, outer_found, reached}
use Rattle.check_types.specs.declared.layer.WrittenLayer.TheVariants.{Thin}
use Rattle.check_types.proofs.MissingRegions.{next_filled, none_from}
use Rattle.check_types.proofs.settling.layers_from.Goals as goal

pub overflow_sub-depth : goal.overflow_sub-depth
overflow_sub-depth c = omega (arith, c.each.invariant.depth, length-drop c.each.layer-index c.args.written.now, c.each-test.true)

pub returns-in-None : goal.returns-in-None
returns-in-None c =
    let ls = c.args.written.now in
    let i = c.each.layer-index in
    let s : Option StaticType = option_map (λ s. static_type s.now) c.args.source in
    let e : c.each.depth - 1 ≡ length (drop (i + 1) ls) = omega (arith, c.each.invariant.depth, length-drop i ls, length-drop (i + 1) ls) in
    λ t. sym (none_from (drop (i + 1) ls) s)
    ∙ next_filled ls i (Thin (MayBeNull 0) None) s (pointed t c.each.layers.items) (outer_found c.outer_at.result) None c.each-test.true
    (c.outer_at.ensures ∙ ap (λ n. outer_region (reached n s)) e) (c.in-None.ensures (pointed t c.each.layers.items))
    ∙ c.each.invariant.filled t

pub each-preserved : goal.each-preserved
each-preserved c =
    let ls = c.args.written.now in
    let i = c.each.layer-index in
    let s : Option StaticType = option_map (λ s. static_type s.now) c.args.source in
    let e : c.each.depth - 1 ≡ length (drop (i + 1) ls) = omega (arith, c.each.invariant.depth, length-drop i ls, length-drop (i + 1) ls) in
    record {
      depth = e;
      filled = λ t. ap (λ v. all_from (drop (i + 1) ls) s (Some v))
          (ap (pointed t) c.in_ok-push-in-Some.ensures.ok ∙ pointed_more c.each.layers.items t c.in-Some.pointer)
          ∙ next_filled ls i (Thin (MayBeNull 0) None) s (pointed t c.each.layers.items) (outer_found c.outer_at.result)
          (Some (pointer_to c.in-Some.pointer (pointed t c.each.layers.items))) c.each-test.true
          (c.outer_at.ensures ∙ ap (λ n. outer_region (reached n s)) e) (c.in-Some.ensures (pointed t c.each.layers.items))
          ∙ c.each.invariant.filled t;
    }
