use Rattle.std.specs.Prelude.{map}
use Rattle.std.proofs.Common.{◌≡◌, true, refl, sym, ap, subst, ◌∙◌}
use Rattle.cyc_core.specs.Trees.{function_tree, program_tree}
use Rattle.rv32_select.specs.Beginning.{begins_within}
use Rattle.rv32_select.specs.Listing.{homes_listed}
use Rattle.rv32_select.proofs.NoBranches.{program_long}
use Rattle.rv32_select.proofs.Meaning.{lines_are}
use Rattle.rv32_select.proofs.function.select.Goals as goal

pub invariant_of-result : goal.invariant_of-result
invariant_of-result c =
    let program = c.args.program.now in
    let lines = c.in_ok-lines.lines.items in (
      subst (λ ls. begins_within ls ≡ true) (sym c.in_ok-lines.ensures) refl,
      program_long (program_tree program) lines c.in_ok-lines.ensures,
    )

pub returns : goal.returns
returns c = record {
  selected = c.in_ok-lines.ensures;
  lines = lines_are (program_tree c.args.program.now) c.in_ok-lines.lines.items c.in_ok-lines.ensures;
  homes = c.in_ok-homes.ensures ∙ ap (λ fs. homes_listed (map function_tree fs)) c.deref.ensures.value;
}
