use Rattle.std.proofs.Common.{◌*◌, [], ap, map, refl, ◌∙◌}
use Rattle.cyc_core.specs.Trees.{local_tree, body_tree, function_tree}
use Rattle.core_lines.specs.Held.{with_taken}
use Rattle.core_lines.specs.Parameters.{parameter_register}
use Rattle.core_lines.specs.Selected.{end_from, offsets_from, shrunk}
use Rattle.rv32_select.proofs.Entering.{settled}
use Rattle.rv32_select.proofs.place.Place.settle.Goals as goal

pub returns : goal.returns
returns c =
    let f = function_tree c.args.function.now in
    let first = c.in_ok-first.first in
    let begins = c.in_ok-first.ensures ∙ ap (λ n. 4 * n) c.requires.slots in
    let own = c.in_ok-own.ensures ∙ ap (λ ls. offsets_from first (shrunk (map local_tree ls) [])) c.deref-2.ensures.value in
    let low = c.in_ok-low.ensures ∙ ap (λ ls. end_from first (shrunk (map local_tree ls) [])) c.deref.ensures.value in
    let blocks = ap (map (λ scope. scope.offsets.items)) c.new.ensures.items in
    let homes = ap (map (λ scope. scope.homes.items)) c.new.ensures.items in
    let named = c.deref-3.ensures.value ∙ c.requires.homes in
    let body = ap body_tree c.deref-4.ensures.value in
    let held = c.in_ok-hold_taken.ensures ∙ (λ i. with_taken (parameter_register (named i) (body i)) 0 f.parameters []) in
    record {
      place = settled f c.args.self.now.statics.items c.in_ok-own.own.items c.args.self.now.homes.items _ _ c.args.exit first c.in_ok-low.low _
          begins own low c.requires.homes blocks homes held;
      homes = refl;
    }
