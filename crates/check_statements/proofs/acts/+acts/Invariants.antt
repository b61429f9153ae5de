use Rattle.std.proofs.Common.{◌≡◌, map, drop}
use Rattle.cyc_tree.specs.View.{expression_tree, expressions_of, link_tree, links_of, suffix_tree, suffixes_of}
use Rattle.source_typing.specs.Exchanges.{all_acts, link_acts, suffix_acts}
use Rattle.source_typing.specs.Faults.{earliest}
use Rattle.check_faults.specs.Faults.{faults_of, first_of}
use Rattle.check_statements.proofs.acts.+acts.Given as goal

-- what was found, with what is in the rest, is what is in all
abbrev pub invariant-act_in_all-each : goal.invariant-act_in_all-each
invariant-act_in_all-each l =
    first_of (faults_of l.found) (earliest (all_acts (expressions_of (map expression_tree (drop l.expression-index l.expressions)))))
    ≡ earliest (all_acts (expressions_of (map expression_tree l.expressions)))

abbrev pub invariant-act_in_links-each : goal.invariant-act_in_links-each
invariant-act_in_links-each l =
    first_of (faults_of l.found) (earliest (link_acts (links_of (map link_tree (drop l.link-index l.links)))))
    ≡ earliest (link_acts (links_of (map link_tree l.links)))

abbrev pub invariant-act_in_suffixes-each : goal.invariant-act_in_suffixes-each
invariant-act_in_suffixes-each l =
    first_of (faults_of l.found) (earliest (suffix_acts (suffixes_of (map suffix_tree (drop l.suffix-index l.suffixes)))))
    ≡ earliest (suffix_acts (suffixes_of (map suffix_tree l.suffixes)))
