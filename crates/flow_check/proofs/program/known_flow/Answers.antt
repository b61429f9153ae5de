use Rattle.std.proofs.Common.{false}
use Rattle.cyc_tree.specs.View.{program_tree}
use Rattle.source_typing.specs.Programs.{tables_of}
use Rattle.flow_check.proofs.Programs.{knows_program}
use Rattle.flow_check.proofs.program.known_flow.Goals as goal

pub returns : goal.returns
returns c known =
    let all = program_tree c.args.items.now in
    c.items_flow.ensures (tables_of false all) (knows_program _ all known.names known.tables (c.in_ok-globals.ensures known))
