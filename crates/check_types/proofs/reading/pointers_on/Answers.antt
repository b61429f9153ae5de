use Rattle.std.proofs.Common.{◌≡◌, ap, sym, ◌∙◌}
use Rattle.std.specs.Prelude.{None, Option, Some, option_map}
use Rattle.cyc_tree.specs.View.{type_tree}
use Rattle.source_typing.specs.Faults.{earliest}
use Rattle.source_typing.specs.Written.{all_found, pointers_to}
use Rattle.check_faults.specs.Faults.{faults_of}
use Rattle.check_types.specs.Reading.{pointer_spots, pointer_trees}
use Rattle.check_types.specs.Written.{partial_base}
use Rattle.check_types.proofs.Pointers.{pointed_right}
use Rattle.source_typing.specs.Faults as rules
use Rattle.check_types.proofs.reading.pointers_on.Goals as goal

pub returns : goal.returns
returns c =
    let names = c.args.names.now in
    let b = partial_base c.args.base in
    let none : Option rules.Fault = None in
    let clean : earliest (all_found names (pointer_spots c.args.of.now.pointers.items)).1 ≡ none =
    sym (c.regions_fault.ensures ∙ ap (λ ps. earliest (all_found names (pointer_spots ps)).1) c.deref.ensures.value) ∙ ap faults_of c.in-None.is in
    c.built.ensures
    ∙ pointed_right names (type_tree c.args.of.now) b (option_map (λ ls. ls.items) c.in_ok-layers-in-None.layers) clean
    (sym (ap (λ ps. pointers_to (pointer_trees ps) (all_found names (pointer_spots ps)).0 (Some b)) c.deref-in-None.ensures.value)
    ∙ c.in_ok-layers-in-None.ensures b)
