-- View of code: parameters' types, of what is written.
use Rattle.std.specs.Prelude.{ℕ}
use Rattle.source_typing.specs.Functions.{if_parameter}
use Rattle.source_typing.specs.Tags.{settled_alone}
use Rattle.source_typing.specs.Types.{PartialType, StaticType}
use Rattle.source_typing.specs.Verdicts.{Verdict, after}

-- the type of a parameter, of what is written
abbrev pub as_parameter : ℕ → Verdict PartialType → Verdict StaticType
as_parameter at v = after (after v (settled_alone at)) (if_parameter at)
