use Rattle.std.proofs.Common.{◌≡◌, map, drop}
use Rattle.cyc_tree.specs.View.{suffix_tree, suffixes_of}
use Rattle.source_meaning.specs.Programs.{world_of}
use Rattle.lower_checks.specs.Reaching.{further_code, further_place, reached_place}
use Rattle.lower_checks.specs.Room.{HasRoom}
use Rattle.lower_checks.specs.Within.{IsWithin}
use Rattle.lower_checks.specs.Writing.{IsEmitting, IsSound}
use Rattle.lower_checks.proofs.member.follow.Given as goal

-- there is room behind the pointer, what is reached lies within an object, and the rest of the way from here is the whole way
abbrev pub invariant-each : goal.invariant-each
invariant-each l =
    let w = world_of l.program in
    let all = suffixes_of (map suffix_tree l.suffixes) in
    let others = suffixes_of (map suffix_tree (drop l.suffix-index l.suffixes)) in
    record {
      room : HasRoom l.to.0 2;
      within : IsWithin w (reached_place l.reached);
      way : IsSound l.body → record {
        code : IsEmitting l.initial.body l.body (further_code w all (reached_place l.fn.start) l.fn.pointer.0)
            (further_code w others (reached_place l.reached) l.to.0);
        place : further_place w others (reached_place l.reached) ≡ further_place w all (reached_place l.fn.start);
      };
    }
