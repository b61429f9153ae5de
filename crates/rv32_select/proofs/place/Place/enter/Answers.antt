use Rattle.std.proofs.Common.{ap, drop, map, refl, sym, ◌∙◌}
use Rattle.std.proofs.lemmas.List.{length-map}
use Rattle.cyc_core.specs.Trees.{local_tree}
use Rattle.core_lines.specs.Selected.{end_from, offsets_from, shrunk}
use Rattle.rv32_select.specs.Marks.{first_homes}
use Rattle.rv32_select.specs.Places.{surroundings}
use Rattle.rv32_select.proofs.Entering.{entered}
use Rattle.rv32_select.proofs.Naming.{block_names}
use Rattle.rv32_select.proofs.Shrinking.{first_are}
use Rattle.rv32_select.proofs.place.Place.enter.Goals as goal

pub returns-clause-place : goal.returns-clause-place
returns-clause-place c =
    let old = c.args.self.now in
    let u = surroundings old in
    let ls = map local_tree c.args.locals.now in
    let before = c.behind.ensures ∙ ap (drop old.named) c.deref.ensures.value in
    let many = sym (length-map c.args.locals.now local_tree) in
    let here = c.in_ok-homes.ensures ∙ (λ k. first_homes (many k) (before k)) ∙ first_are ls (drop old.named old.homes.items) in
    let offsets = c.in_ok-offsets.ensures ∙ ap (λ hs. offsets_from old.low (shrunk ls hs)) c.deref-3.ensures.value in
    let end = c.in_ok-end.ensures ∙ ap (λ hs. end_from old.low (shrunk ls hs)) c.deref-2.ensures.value in
    let blocks = ap (map (λ scope. scope.offsets.items)) c.in_ok-insert.ensures.items in
    let homes = ap (map (λ scope. scope.homes.items)) c.in_ok-insert.ensures.items in
    let later = block_names local_tree c.args.locals.now old.homes.items old.named c.in_ok-named.named c.in_ok-named.ensures in (
      refl,
      entered u ls c.in_ok-homes.homes.items c.in_ok-offsets.offsets.items (drop c.in_ok-named.named old.homes.items) c.in_ok-end.end _ _
          here offsets end later blocks homes,
    )
