use Rattle.cyc_tree.specs.View.{program_tree}
use Rattle.cyc_types.proofs.FirstTags.{has_first}
use Rattle.source_typing.specs.Programs.{builtins, entries, judged_tags}
use Rattle.check_structs.proofs.tags.judged_tags.Goals as goal

pub judged_items-requires : goal.judged_items-requires
judged_items-requires c = record { first = c.in_ok-first.ensures c.in_ok-bare.ensures }

pub returns-clause-tables : goal.returns-clause-tables
returns-clause-tables c =
    has_first c.in_ok-done.done.tables (builtins (entries (judged_tags (program_tree c.args.items.now))))
    c.in_ok-done.ensures.are.tables
