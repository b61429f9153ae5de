-- View of code: the point up to which names are in scope.
use Rattle.std.specs.Prelude.{length}
use Rattle.check_regions.specs.Scopes.{Scoped}
use Rattle.check_regions.specs.declared.scope.RegionMark.{RegionMark}

abbrev pub mark_of : Scoped → RegionMark
mark_of s = record { names = length s.begun; opened = length s.opened }
