-- View of code: what the names of items mean.
use Rattle.std.specs.Prelude.{None, Option, Some, ◌≡◌}
use Rattle.source_typing.specs.Tables.{Entry}
use Rattle.check_scopes.specs.Means.{Means}
use Rattle.check_scopes.specs.declared.meaning.Meaning.{Meaning}

-- A name means in all tables what it means in code since the first ones of them, or else what it means in the others.
abbrev pub Since : Option Entry → Option Meaning → Option Entry → Type 0
Since all None others = all ≡ others
Since all (Some m) others = Means all (Some m)
