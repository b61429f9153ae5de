use Rattle.std.proofs.Common.{◌≡◌, ◌≤◌, ◌*◌, ◌++◌, map, drop}
use Rattle.cyc_tree.specs.View.{member_tree}
use Rattle.source_meaning.specs.Shapes.{part_of, part_shapes}
use Rattle.source_lowering.specs.Programs.{parameter_names, parameters_code}
use Rattle.lower_checks.specs.Views.{stored_tree}
use Rattle.lower_checks.specs.Visible.{names_of}
use Rattle.lower_checks.specs.Writing.{IsEmitting, IsSound}
use Rattle.lower_checks.proofs.function.lower_parameters.Given as goal

-- what the rest declares after what was declared is what all declare; and so for what they are and for the code
abbrev pub invariant-each : goal.invariant-each
invariant-each l =
    let all = map part_of (map member_tree l.parameters) in
    let others = map part_of (map member_tree (drop l.parameter-index l.parameters)) in
    record {
      written : IsSound l.body → record {
        code : IsEmitting l.initial.body l.body (parameters_code all 0 0 l.free.0) (parameters_code others l.index l.words l.free.0);
        names : parameter_names others l.index (names_of l.locals) ≡ parameter_names all 0 (names_of l.initial.locals);
        stored : map stored_tree l.all.items ++ part_shapes others ≡ map stored_tree l.initial.all.items ++ part_shapes all;
      };
      index : l.index ≡ l.parameter-index;
      few : l.words ≤ 3 * l.parameter-index;
    }
