use Rattle.std.proofs.Common.{◌≡◌, ◌+◌, ◌-◌, length, map, drop}
use Rattle.cyc_tree.specs.View.{expression_tree, expressions_of, link_tree, links_of, member_tree, suffix_tree, suffixes_of}
use Rattle.source_meaning.specs.Shapes.{part_of}
use Rattle.source_lowering.specs.Lowered.{
  all_code,
  all_values,
  any_code,
  argument_words,
  arguments_code,
  link_values,
  linked_shape,
  links_code,
  made_values,
  members_code,
  suffix_values,
}
use Rattle.source_lowering.specs.Lowerable.{TakesAll, TakesLinks, TakesMade}
use Rattle.cyc_tree.specs.Room.{argument_room, link_room}
use Rattle.lower_checks.specs.Reaching.{indices_code, indices_in}
use Rattle.lower_checks.specs.Room.{HasRoom}
use Rattle.lower_checks.specs.Scoped.{names_in, world_in}
use Rattle.lower_checks.specs.Structs.{HaveRoom}
use Rattle.lower_checks.specs.Views.{shape_tree}
use Rattle.lower_checks.specs.Within.{AreWithin}
use Rattle.lower_checks.specs.Writing.{IsLeft, IsSound, IsWritten, next_of}
use Rattle.lower_checks.proofs.+expression.Given as goal

-- what is written, and the code of the links that are left, is the code of all; and so for the temporary objects
abbrev pub invariant-operands::lower_links-each : goal.invariant-operands::lower_links-each
invariant-operands::lower_links-each l =
    let w = world_in l.scope in
    let names = names_in l.scope in
    let all = links_of (map link_tree l.links) in
    let others = links_of (map link_tree (drop l.link-index l.links)) in
    record {
      written : IsSound l.body → record {
        left : IsLeft l.initial.body l.body (links_code w names all (shape_tree l.fn.first) l.to.0 (next_of l.initial.body))
            (links_code w names others (shape_tree l.left) l.to.0 (next_of l.body)) (link_values w names all) (link_values w names others);
        shape : linked_shape w names others (shape_tree l.left) ≡ linked_shape w names all (shape_tree l.fn.first);
        taken : TakesLinks w names others;
      };
      room : HasRoom l.to.0 (16 + link_room others);
    }

-- the same of operands
abbrev pub invariant-operands::lower_all-each : goal.invariant-operands::lower_all-each
invariant-operands::lower_all-each l =
    let w = world_in l.scope in
    let names = names_in l.scope in
    let all = expressions_of (map expression_tree l.operands) in
    let others = expressions_of (map expression_tree (drop l.operand-index l.operands)) in
    record {
      written : IsSound l.body → record {
        left : IsLeft l.initial.body l.body (all_code w names all l.to.0 (next_of l.initial.body)) (all_code w names others l.to.0 (next_of l.body))
            (all_values w names all) (all_values w names others);
        taken : TakesAll w names others;
      };
      room : HasRoom l.to.0 (16 + argument_room others);
    }

abbrev pub invariant-operands::lower_any-each : goal.invariant-operands::lower_any-each
invariant-operands::lower_any-each l =
    let w = world_in l.scope in
    let names = names_in l.scope in
    let all = expressions_of (map expression_tree l.operands) in
    let others = expressions_of (map expression_tree (drop l.operand-index l.operands)) in
    record {
      written : IsSound l.body → record {
        left : IsLeft l.initial.body l.body (any_code w names all l.to.0 (next_of l.initial.body)) (any_code w names others l.to.0 (next_of l.body))
            (all_values w names all) (all_values w names others);
        taken : TakesAll w names others;
      };
      room : HasRoom l.to.0 (16 + argument_room others);
    }

-- and of arguments
abbrev pub invariant-operands::lower_arguments-each : goal.invariant-operands::lower_arguments-each
invariant-operands::lower_arguments-each l =
    let w = world_in l.scope in
    let names = names_in l.scope in
    let all = expressions_of (map expression_tree l.arguments) in
    let others = expressions_of (map expression_tree (drop l.argument-index l.arguments)) in
    record {
      written : IsSound l.body → record {
        left : IsLeft l.initial.body l.body (arguments_code w names (map shape_tree l.shapes) all l.fn.first.0 (next_of l.initial.body))
            (arguments_code w names (map shape_tree l.left) others (l.fn.first.0 + l.words) (next_of l.body)) (all_values w names all)
            (all_values w names others);
        taken : TakesAll w names others;
      };
      words : l.words + argument_words (map shape_tree l.left) others ≡ argument_words (map shape_tree l.shapes) all;
      room : HasRoom (l.fn.first.0 + l.words) (16 + argument_room others);
    }

-- the indices behind are written, the last one first
abbrev pub invariant-place::lower_indices-each : goal.invariant-place::lower_indices-each
invariant-place::lower_indices-each l =
    let w = world_in l.scope in
    let names = names_in l.scope in
    let behind = suffixes_of (map suffix_tree (drop (length l.suffixes - l.k) l.suffixes)) in
    record {
      writes : IsSound l.body → IsWritten l.initial.body l.body (indices_code w names behind l.fn.first.0 (next_of l.initial.body))
          (suffix_values w names behind);
      behind : l.to.0 ≡ l.fn.first.0 + indices_in behind;
    }

-- what is written, and the code of the members that are left, is the code of all
abbrev pub invariant-whole::lower_members-each : goal.invariant-whole::lower_members-each
invariant-whole::lower_members-each l =
    let w = world_in l.scope in
    let names = names_in l.scope in
    let parts = map part_of (map member_tree l.members) in
    let parts_left = map part_of (map member_tree l.left) in
    let all = expressions_of (map expression_tree l.arguments) in
    let others = expressions_of (map expression_tree (drop l.argument-index l.arguments)) in
    record {
      to : l.slot.to.0 ≡ l.fn.to.0;
      written : IsSound l.body → record {
        left : IsLeft l.initial.body l.body (members_code w names parts all l.fn.to.0 0 0 (next_of l.initial.body))
            (members_code w names parts_left others l.fn.to.0 l.slot.cells l.slot.bytes (next_of l.body)) (made_values w names parts all)
            (made_values w names parts_left others);
        room : HaveRoom w.unions w.structs parts_left;
        taken : TakesMade w names parts_left others;
      };
      room : HasRoom l.fn.to.0 (16 + argument_room others);
      within : AreWithin w l.slot.bytes l.slot.cells parts_left;
    }
