use Rattle.std.proofs.Common.{◌≡◌, ◌∙◌, ◌+◌, sym, ap, subst, List, ◌∷◌, map, drop}
use Rattle.std.proofs.lemmas.List.{drop_more}
use Rattle.cyc_core.specs.Trees.{local_tree}
use Rattle.source_meaning.specs.Programs.{world_of}
use Rattle.source_meaning.specs.Shapes.{Shape}
use Rattle.source_lowering.specs.Objects.{AreVariables}
use Rattle.source_lowering.specs.Programs.{locals_of}
use Rattle.lower_checks.specs.Views.{stored_tree}
use Rattle.lower_checks.proofs.Lists.{mapped_more}
use Rattle.lower_checks.proofs.objects.locals_of.Goals as goal

pub each-preserved : goal.each-preserved
each-preserved c =
    let w = world_of c.args.program.now in
    let k = c.each.stored-index in
    let all = c.args.all.now in
    let stored = c.stored-item.result in
    let others = map stored_tree (drop (k + 1) all) in
    let left_is : map stored_tree (drop k all) ≡ stored_tree stored ∷ others =
    ap (map stored_tree) (drop_more all k stored c.each-test.true) ∙ ap (λ s. stored_tree s ∷ others) (sym c.stored-item.is) in
    record {
      locals =
          mapped_more local_tree c.each.locals.items c.append.new.all.items c.in_ok-local.local (locals_of w others)
          (locals_of w (map stored_tree (drop k all))) (locals_of w (map stored_tree all)) c.in_ok-append.ensures.appended
          (ap (locals_of w) left_is ∙ ap (λ l. l ∷ locals_of w others) (sym c.in_ok-local.ensures.local)) c.each.invariant.locals;
      taken = (subst (λ (ss : List Shape). AreVariables w.unions w.structs ss) left_is c.each.invariant.taken).1;
    }
