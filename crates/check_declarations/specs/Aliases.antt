-- View of code: declarations of aliases.
use Rattle.std.specs.Prelude.{ℕ}
use Rattle.cyc_tree.specs.Tree.{Alias, Declaration, Name}
use Rattle.cyc_tree.specs.View.{name_tree, region_tree, type_tree}
use Rattle.check_declarations.specs.declared.alias.Alias as code

-- an alias of a name
abbrev pub declared_alias : ℕ → code.Alias → Name → Declaration
declared_alias at a x = Alias at (region_tree a.region.now) (type_tree a.of.now) x (name_tree a.source.now)
