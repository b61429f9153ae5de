-- View of code: what is known of temporaries, as the definition of code has it.
use Rattle.std.specs.Prelude.{ℕ, Option, Some, None}
use Rattle.core_lines.specs.Held as lines
use Rattle.rv32_select.specs.declared.keeper.Keeper.{Keeper}
use Rattle.rv32_select.specs.declared.keeper.Keeper.TheVariants.{In, Nowhere}
use Rattle.rv32_select.specs.declared.held.Source.{Source}
use Rattle.rv32_select.specs.declared.held.Source.TheVariants as source
use Rattle.rv32_select.specs.declared.held.Holding.{Holding}

abbrev pub source_tree : Source → lines.Source
source_tree (source.Register r) = lines.Register r
source_tree (source.Number w) = lines.Number w
source_tree (source.Compared c) = lines.Compared c
source_tree (source.ComparedWith n) = lines.ComparedWith n

abbrev pub holding_tree : Holding → lines.Holding
holding_tree h = record { temporary = h.temporary.0; source = source_tree h.source }

-- the register that has a word, if one has
abbrev pub keeper_tree : Keeper → Option ℕ
keeper_tree (In r) = Some r
keeper_tree Nowhere = None
