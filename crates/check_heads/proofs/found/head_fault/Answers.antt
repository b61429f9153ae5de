use Rattle.std.proofs.Common.{◌≡◌, ◌++◌, [], ap, sym, ◌∙◌}
use Rattle.std.specs.Prelude.{bytes_eq, codes, not, ◌||◌}
use Rattle.cyc_tree.specs.View.{name_tree}
use Rattle.source_typing.specs.Faults.{earliest, test, type_rule}
use Rattle.source_typing.specs.Functions.{all_faults}
use Rattle.source_typing.specs.Tags.{repeated}
use Rattle.source_typing.specs.Verdicts as rules_of
use Rattle.check_faults.specs.Faults.{faults_of, sooner_found}
use Rattle.check_faults.specs.Verdicts.{fault_found}
use Rattle.check_heads.proofs.HeadFaults.{form_found, is_none_of, own_found, parts_are, parts_found, repeated_found, types_found}
use Rattle.check_heads.proofs.ReadParameters.{fault_is}
use Rattle.check_heads.specs.Reading.{main_faults_of}
use Rattle.check_heads.proofs.found.head_fault.Goals as goal

pub returns-then-is_some : goal.returns-then-is_some
returns-then-is_some c v ms vs us e h k =
    let ps = c.args.parameters.now in
    let n = name_tree c.args.name.now in
    let types = c.types_fault.result in
    let second = c.in_ok-second.second in
    let parts = sooner_found types (sooner_found second (sooner_found (fault_found c.args.of.now) c.args.used)) in
    let is : c.sooner-parts.result ≡ parts =
    c.sooner-parts.ensures ∙ ap (λ o. sooner_found types o) (c.sooner-2.ensures ∙ ap (λ o. sooner_found second o) (c.sooner.ensures
    ∙ ap (λ o. sooner_found o c.args.used) c.fault.ensures)) in
    let all = parts_are types second (fault_found c.args.of.now) c.args.used (all_faults vs) (repeated [] ms) (rules_of.faults_of v) us
    (c.types_fault.ensures ∙ types_found ps ms vs h)
    (c.in_ok-second.ensures ∙ ap (λ fs. earliest fs) (repeated_found ps ms vs h))
    (fault_is c.args.of.now v e) k in
    parts_found c.sooner-parts.result (main_faults_of n v ms) (all_faults vs ++ repeated [] ms ++ rules_of.faults_of v ++ us) (ap faults_of is ∙ all)
    (is_none_of c.sooner-parts.result (sym c.is_some.ensures ∙ c.if-is_some.true))

pub returns : goal.returns
returns c v ms vs us e h k =
    let ps = c.args.parameters.now in
    let n = name_tree c.args.name.now in
    let types = c.types_fault.result in
    let second = c.in_ok-second.second in
    let parts = sooner_found types (sooner_found second (sooner_found (fault_found c.args.of.now) c.args.used)) in
    let is : c.sooner-parts.result ≡ parts =
    c.sooner-parts.ensures ∙ ap (λ o. sooner_found types o) (c.sooner-2.ensures ∙ ap (λ o. sooner_found second o) (c.sooner.ensures
    ∙ ap (λ o. sooner_found o c.args.used) c.fault.ensures)) in
    let all = parts_are types second (fault_found c.args.of.now) c.args.used (all_faults vs) (repeated [] ms) (rules_of.faults_of v) us
    (c.types_fault.ensures ∙ types_found ps ms vs h)
    (c.in_ok-second.ensures ∙ ap (λ fs. earliest fs) (repeated_found ps ms vs h))
    (fault_is c.args.of.now v e) k in
    own_found c.sooner-parts.result (main_faults_of n v ms) (all_faults vs ++ repeated [] ms ++ rules_of.faults_of v ++ us) (ap faults_of is ∙ all)
    c.main_fault.result (is_none_of c.sooner-parts.result (sym c.is_some.ensures ∙ c.if-is_some.false))
    (c.main_fault.ensures
    ∙ ap (λ b. earliest (test (not (bytes_eq n.text (codes "main")) || b) type_rule n.at)) (form_found c.args.of.now v e ps ms vs h))
