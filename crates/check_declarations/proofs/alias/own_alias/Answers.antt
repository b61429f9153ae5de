use Rattle.std.proofs.Common.{refl, subst, sym, ap, ◌++◌, ◌∙◌}
use Rattle.std.specs.Prelude.{None, true}
use Rattle.cyc_tree.specs.View.{name_tree, region_tree, type_tree}
use Rattle.cyc_types.specs.Types.{static_type}
use Rattle.check_operators.specs.Values.{value_of}
use Rattle.source_typing.specs.Declarations.{alias_type, operand, region_declared, tagged, tags_in_scope, type_in_scope, type_of_alias, what_of}
use Rattle.source_typing.specs.Regions.{with_name}
use Rattle.source_typing.specs.Scope.{next_region}
use Rattle.source_typing.specs.Tables.{Tables}
use Rattle.source_typing.specs.Types.{is_unique}
use Rattle.source_typing.specs.Verdicts as verdict
use Rattle.source_typing.specs.Written.{written}
use Rattle.check_faults.specs.Faults.{faults_of}
use Rattle.check_faults.specs.Verdicts.{shortened}
use Rattle.check_scopes.specs.Means.{WhatIs}
use Rattle.check_declarations.specs.Declaring.{alias_scope}
use Rattle.check_declarations.proofs.Aliases.{begun_tables}
use Rattle.check_heads.proofs.Answered.{fault_is}
use Rattle.check_declarations.proofs.Blocks.{two_found}
use Rattle.check_declarations.proofs.RegionScopes.{begun_stands}
use Rattle.check_declarations.proofs.alias.own_alias.Goals as goal

pub returns-clause-judged : goal.returns-clause-judged
returns-clause-judged c = λ g at x known suits.
    let s = c.args.scope.now in
    let a = c.args.alias in
    let r = region_tree a.region.now in
    let t = type_tree a.of.now in
    let p = name_tree a.source.now in
    let v = operand g p is_unique in
    let inside = alias_scope g r in
    let u = type_of_alias g inside t p in
    let w = type_in_scope inside t in
    let source = c.in_ok-source.ensures g known in
    let tag = c.local_tag-tag.ensures g known in
    let is_written =
    c.in_ok-written.ensures (tags_in_scope g) tag
    ∙ ap (λ ns. shortened (written (tags_in_scope g) ns t)) (c.in_ok-next.ensures.named g (with_name true) known suits.names)
    ∙ ap (λ (ts : Tables). shortened (written (tagged ts) inside.names t)) (sym (begun_tables g r (with_name true))) in
    let misses = c.misses_region_in-misses_region.ensures (tags_in_scope g) tag in
    let of =
    c.in_ok-of.ensures w v is_written source
    ∙ ap (λ q. shortened (verdict.after w (alias_type t.at q c.misses_region_in-misses_region.result v))) (c.in_ok-next.ensures.next g known)
    ∙ ap (λ b. shortened (verdict.after w (alias_type t.at (next_region g) b v))) misses in
    let named_fault = c.in_ok-next.ensures.fault g suits.names in
    let source_fault = ap faults_of c.fault.ensures ∙ fault_is value_of c.in_ok-source.source v source in
    let type_fault = ap faults_of c.fault-2.ensures ∙ fault_is static_type c.in_ok-of.of u of in
    let fs = region_declared g r in
    let fault =
    two_found c.sooner.result c.fault-2.result c.sooner-fault.result (fs ++ verdict.faults_of v) (verdict.faults_of u) c.sooner-fault.ensures
    (two_found c.in_ok-next.next.fault c.fault.result c.sooner.result fs (verdict.faults_of v) c.sooner.ensures named_fault source_fault) type_fault in
    record {
      fault = fault;
      what = subst (λ q. WhatIs (what_of q None u) c.what_of.result) suits.frame (c.what_of.ensures u of);
    }

pub returns-clause-stands : goal.returns-clause-stands
returns-clause-stands c = λ g at x outer h.
    let s = c.args.scope.now in
    let a = c.args.alias in
    let r = region_tree a.region.now in
    let names = c.next_named.new.names in
    let rs = c.begin_name.new.self in
    begun_stands c.args.context c.args.names.now names outer s g rs h r (with_name true) (c.in_ok-begin_name.ensures.by_the_rules g.regions
    h.known.regions) refl
    (c.in_ok-next.ensures.named g (with_name true) h.known h.suits.names)
