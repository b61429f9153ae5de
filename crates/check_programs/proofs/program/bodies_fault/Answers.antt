use Rattle.cyc_tree.specs.View.{program_tree}
use Rattle.source_typing.specs.Programs.{tables_of}
use Rattle.check_tables.proofs.TagTables.{knows_all}
use Rattle.check_programs.proofs.program.bodies_fault.Goals as goal

pub returns : goal.returns
returns c known =
    let l = c.args.lenient in
    let all = program_tree c.args.items.now in
    let knows = knows_all c.args.structs l all known in
    c.items_fault.ensures (tables_of l all) record {
      globals = c.in_ok-globals.ensures known;
      tag_names = knows.names;
      tags = knows.tables;
    }
