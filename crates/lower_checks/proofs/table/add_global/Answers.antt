use Rattle.std.proofs.Common.{◌≡◌, ◌∙◌, ap, ℕ, suc, List, Some, None, if◌then◌else◌}
use Rattle.std.specs.Prelude.{bytes_eq}
use Rattle.source_meaning.specs.Shapes.{Shape}
use Rattle.source_meaning.specs.Steps.{Variable}
use Rattle.source_meaning.specs.Places.{bound_to, or_else}
use Rattle.source_meaning.specs.Programs.{globals_from, heap_spot}
use Rattle.lower_checks.specs.Firsts.{first_in}
use Rattle.lower_checks.specs.declared.table.Found.{Found}
use Rattle.lower_checks.proofs.Tables.{global_kept}
use Rattle.lower_checks.proofs.table.add_global.Goals as goal

pub returns : goal.returns
returns c = record {
  added =
      λ items name.
      let value : Found = record { stored = c.global_stored-stored.result; object = c.args.object } in
      let old = first_in c.args.globals.now name in
      let new = first_in c.add.new.self name in
      let is : new ≡ or_else old (if bytes_eq c.args.global.now.name.text.items name then Some value else None) =
      c.in_ok-add.ensures name ∙ ap (λ (text : List ℕ). or_else old (if bytes_eq text name then Some value else None)) c.deref.ensures.value in
      global_kept old new (bytes_eq c.args.global.now.name.text.items name) value _ (bound_to (globals_from items (suc c.args.object)) name) is
      (ap (λ (s : Shape). Variable s (heap_spot c.args.object)) c.global_stored-stored.ensures);
}
