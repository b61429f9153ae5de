use Rattle.std.proofs.Common.{[], refl, sym}
use Rattle.source_typing.specs.Programs.{builtins}
use Rattle.check_structs.proofs.FirstKnown.{since_last}
use Rattle.check_structs.proofs.Standing.{known_builtins}
use Rattle.check_structs.proofs.tags.no_tags.Goals as goal

pub returns : goal.returns
returns c = record {
  names = λ x. sym (since_last (builtins []) c.in_ok-names.names (c.in_ok-names.ensures []) x);
  known = known_builtins c.in_ok-names.names c.in_ok-names.ensures;
  tables = c.new.ensures;
  fault = refl;
}
