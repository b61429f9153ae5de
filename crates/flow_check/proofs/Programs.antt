-- The earliest fault of flow of items, one after another, and what their names mean.
use Rattle.std.proofs.Common.{List, Option, ap, drop, false, get_or, length, suc, sym, ℕ, ◌+◌, ◌<◌, ◌∙◌, ◌≡◌}
use Rattle.cyc_tree.specs.Tree.{Program}
use Rattle.cyc_tree.specs.View.{program_item_tree, program_tree}
use Rattle.cyc_tree.specs.declared.item.Item as code_item
use Rattle.cyc_types.specs.Sameness.{HasTags}
use Rattle.flow_summaries.proofs.Sooner.{sooner_joined}
use Rattle.flow_summaries.specs.Statements.{fault_from, fault_of_item}
use Rattle.source_typing.specs.Programs.{builtins, entries, judged_tags, tables_of}
use Rattle.source_typing.specs.Tables.{Tables}
use Rattle.check_faults.specs.Faults.{sooner_found}
use Rattle.check_faults.specs.declared.fault.Fault.{Fault}
use Rattle.check_heads.specs.Bodies.{KnowsGlobals, KnowsNames}
use Rattle.check_heads.specs.declared.entering.Names.{Names}
use Rattle.check_tables.proofs.Items.{next_of}
use Rattle.check_tables.proofs.TagTables.{knows_all}
use Rattle.check_tables.specs.Structs.{KnowsStructs}
use Rattle.check_tables.specs.declared.structs.Structs.{Structs}
use Rattle.check_types.specs.Naming.{AreTagNames}

-- what was found before an item, at it and after it
pub flow_goes_on : (g : Tables) (i : ℕ) (items : List code_item.Item) (index : ℕ) (item : code_item.Item) (found now : Option Fault)
    → index < length items → item ≡ get_or items index item → now ≡ sooner_found found (fault_of_item g i (program_item_tree item))
    → sooner_found now (fault_from g (suc i) (program_tree (drop (index + 1) items)))
    ≡ sooner_found found (fault_from g i (program_tree (drop index items)))
flow_goes_on g i items index item found now h is e =
    let this : Option Fault = fault_of_item g i (program_item_tree item) in
    let rest : Option Fault = fault_from g (suc i) (program_tree (drop (index + 1) items)) in
    ap (λ o. sooner_found o rest) e
    ∙ sooner_joined found this rest
    ∙ ap (λ (l : List code_item.Item). sooner_found found (fault_from g i (program_tree l))) (sym (next_of items index item h is))

-- what is known of structs by the tags alone, and of all names
pub knows_program : (n : Names) (p : Program) → AreTagNames n.tags.now (builtins (entries (judged_tags p)))
    → HasTags n.tables.now (builtins (entries (judged_tags p))) → KnowsGlobals n.globals.now (tables_of false p) → KnowsNames n (tables_of false p)
knows_program n p names tables globals =
    let s : Structs = record { tags = n.tags; tables = n.tables } in
    let knows : KnowsStructs s (tables_of false p) = knows_all s false p (record { names = names; tables = tables }) in
    record { globals = globals; tag_names = knows.names; tags = knows.tables }
