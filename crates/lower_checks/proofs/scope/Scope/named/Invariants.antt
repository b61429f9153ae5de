use Rattle.std.proofs.Common.{◌≡◌, drop}
use Rattle.std.specs.Prelude.{option_map}
use Rattle.source_lowering.specs.Lowered.{local_named}
use Rattle.lower_checks.specs.Numbers.{names_within, numbers_in}
use Rattle.lower_checks.specs.Scoped.{names_in}
use Rattle.lower_checks.specs.Visible.{names_of}
use Rattle.lower_checks.proofs.Naming.{named_behind}
use Rattle.lower_checks.proofs.scope.Scope.named.Given as goal

-- what the name means outside of so many blocks is what it means
abbrev pub invariant-each : goal.invariant-each
invariant-each l =
    option_map (named_behind l.out) (local_named (names_within (numbers_in (drop l.out l.self.numbers.now)) (names_of l.self.locals.now)) l.name)
    ≡ local_named (names_in l.self) l.name
