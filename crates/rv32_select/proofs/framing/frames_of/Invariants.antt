use Rattle.std.proofs.Common.{◌≡◌, map, take}
use Rattle.core_lines.specs.Selected.{frame_bytes}
use Rattle.cyc_core.specs.Trees.{function_tree}
use Rattle.rv32_select.proofs.framing.frames_of.Given as goal

abbrev pub invariant-each : goal.invariant-each
invariant-each l = record { whole : l.frames.items ≡ map frame_bytes (map function_tree (take l.function-index l.functions)) }
