-- The function that a program begins with is among those that it is lowered to.
use Rattle.std.proofs.Common.{◌≡◌, ◌<◌, ℕ, List, arith, ap, length, map}
use Rattle.std.proofs.lemmas.List.{length-map}
use Rattle.cyc_tree.specs.Tree.{Program}
use Rattle.cyc_core.specs.Trees.{function_tree}
use Rattle.cyc_core.specs.declared.program.Function.{Function}
use Rattle.source_meaning.specs.Programs.{functions_of, world_of}
use Rattle.source_lowering.specs.Programs.{function_code, program_code}
use Rattle.lower_checks.specs.Mains.{HasMain}

pub main_there : (p : Program) (fs : List Function) (main : ℕ) → main ≡ (program_code p).main
    → map function_tree fs ≡ map (function_code (world_of p)) (functions_of p) → HasMain p → main < length fs
main_there p fs main is same there =
    omega (arith, is, there, ap length same, length-map fs function_tree, length-map (functions_of p) (function_code (world_of p)))
