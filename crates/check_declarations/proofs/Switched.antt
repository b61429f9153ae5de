-- The members of a union that is switched on, by its tables and by the rules.
use Rattle.std.proofs.Common.{None, Option, Some, ap, refl, sym}
use Rattle.cyc_types.specs.Sameness.{HasTags}
use Rattle.source_typing.specs.Scope.{Env}
use Rattle.source_typing.specs.Tables.{Tag, part_in, parts_of_tag}
use Rattle.check_declarations.specs.Switching.{HasParts}
use Rattle.check_declarations.specs.declared.members.SwitchedUnion.{SwitchedUnion}

pub parts_there : (g : Env) (u : SwitchedUnion) → HasTags u.tables.now g.tables → HasParts g (Some u)
parts_there g u has = record { parts = λ x. ap (λ (t : Option Tag). part_in (parts_of_tag t) x) (sym (has.tags u.chosen.tag.now)) }

pub nowhere : (g : Env) → HasParts g None
nowhere g = record { parts = λ x. refl }
