use Rattle.std.proofs.Common.{◌≡◌, ◌∙◌, ◌+◌, sym, ap, subst, List, ◌∷◌, map, drop}
use Rattle.std.proofs.lemmas.List.{drop_more}
use Rattle.cyc_core.specs.Trees.{local_tree}
use Rattle.source_meaning.specs.Programs.{world_of}
use Rattle.source_meaning.specs.Shapes.{Shape}
use Rattle.source_lowering.specs.Objects.{AreObjects}
use Rattle.source_lowering.specs.Programs.{locals_of}
use Rattle.lower_checks.specs.Views.{shape_tree}
use Rattle.lower_checks.proofs.Lists.{mapped_more}
use Rattle.lower_checks.proofs.objects.values_of.Goals as goal

pub each-preserved : goal.each-preserved
each-preserved c =
    let w = world_of c.args.program.now in
    let k = c.each.shape-index in
    let shapes = c.args.shapes.now in
    let shape = c.shape-item.result in
    let others = map shape_tree (drop (k + 1) shapes) in
    let left_is : map shape_tree (drop k shapes) ≡ shape_tree shape ∷ others =
    ap (map shape_tree) (drop_more shapes k shape c.each-test.true) ∙ ap (λ s. shape_tree s ∷ others) (sym c.shape-item.is) in
    record {
      locals =
          mapped_more local_tree c.each.locals.items c.append.new.all.items c.in_ok-local.local (locals_of w others)
          (locals_of w (map shape_tree (drop k shapes))) (locals_of w (map shape_tree shapes)) c.in_ok-append.ensures.appended
          (ap (locals_of w) left_is ∙ ap (λ l. l ∷ locals_of w others) (sym c.in_ok-local.ensures.local)) c.each.invariant.locals;
      taken = (subst (λ (ss : List Shape). AreObjects w.unions w.structs ss) left_is c.each.invariant.taken).1;
    }
