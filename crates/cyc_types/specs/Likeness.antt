-- View of code: how alike two types are, as the rules say it.
use Rattle.source_typing.specs.Types.{ByRegions, Differs, Equals, Match}
use Rattle.cyc_types.specs.declared.likeness.Likeness.{Likeness}
use Rattle.cyc_types.specs.declared.likeness.Likeness.TheVariants as code

abbrev pub match_of : Likeness → Match
match_of code.Equal = Equals
match_of code.ByRegions = ByRegions
match_of code.Different = Differs

abbrev pub likeness_of : Match → Likeness
likeness_of Equals = code.Equal
likeness_of ByRegions = code.ByRegions
likeness_of Differs = code.Different
