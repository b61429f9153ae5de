-- View of code: the `rnew` around a call in code, as the rules say it.
use Rattle.cyc_types.specs.Regions.{region_of}
use Rattle.source_typing.specs.Scope.{Enclosing, InRegion, InUnique, NotKnown}
use Rattle.check_calls.specs.declared.enclosing.Enclosing as code
use Rattle.check_calls.specs.declared.enclosing.Enclosing.TheVariants as around

abbrev pub enclosing_of : code.Enclosing → Enclosing
enclosing_of (around.In r) = InRegion (region_of r)
enclosing_of around.Unique = InUnique
enclosing_of around.NotKnown = NotKnown
