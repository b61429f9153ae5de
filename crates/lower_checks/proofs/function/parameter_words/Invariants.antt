use Rattle.std.proofs.Common.{◌≡◌, ◌≤◌, ◌+◌, ◌*◌, map, drop}
use Rattle.cyc_tree.specs.View.{member_tree}
use Rattle.source_meaning.specs.Shapes.{part_of, part_shapes}
use Rattle.source_lowering.specs.Members.{all_words}
use Rattle.lower_checks.proofs.function.parameter_words.Given as goal

-- the words so far, and those of the rest, are those of all; a parameter has three at most
abbrev pub invariant-each : goal.invariant-each
invariant-each l = record {
  all : l.words + all_words (part_shapes (map part_of (map member_tree (drop l.parameter-index l.parameters)))) ≡
      all_words (part_shapes (map part_of (map member_tree l.parameters)));
  few : l.words ≤ 3 * l.parameter-index;
}
