use Rattle.std.specs.Prelude.{option_map, slice_get}
use Rattle.std.proofs.Common.{List, ap, ◌∙◌, sym, Bor}
use Rattle.std.proofs.lemmas.Option.{slice_get-map}
use Rattle.core_eval.specs.declared.value.Object.{Object}
use Rattle.core_eval.specs.Elements.{cells_of}
use Rattle.core_eval.proofs.Lent.{cells_lent}
use Rattle.core_eval.proofs.RegionsListed.{item_lent}
use Rattle.core_eval.proofs.objects.object_in.Goals as goal

pub returns : goal.returns
returns c =
    let os = c.args.objects.now.items in
    let i = c.args.index in
    let found = item_lent (λ (o : Bor Object). o.now) c.deref.result.now i c.get.result c.get.ensures.lookup in
    slice_get-map cells_of os i
    ∙ ap (λ (l : List Object). option_map cells_of (slice_get l i)) (sym c.deref.ensures.value)
    ∙ ap (option_map cells_of) found
    ∙ cells_lent c.get.result
