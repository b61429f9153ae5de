use Rattle.std.proofs.Common.{◌≡◌, IfOk, sym, subst}
use Rattle.cyc_core.specs.Trees.{datum_tree}
use Rattle.source_meaning.specs.Programs.{world_of}
use Rattle.lower_checks.proofs.datum.fat_datum.Goals as goal

pub returns : goal.returns
returns c = record {
  datum =
      λ to.
      subst (λ d. IfOk c.string_bounds.result (λ x. datum_tree x ≡ d)) (sym (c.initial_text.ensures to))
      (c.string_bounds.ensures.datum (world_of c.args.program.now) to);
}
