use Rattle.std.proofs.Common.{ap, arith, sym, ◌∙◌}
use Rattle.std.specs.Prelude.{option_copied}
use Rattle.check_scopes.specs.Locals.{find_what}
use Rattle.flow_check.proofs.Adding.{added_states, none_more, one_more}
use Rattle.flow_check.proofs.Beginning.{found_begins, none_found}
use Rattle.flow_check.proofs.Located.{same_count}
use Rattle.flow_check.proofs.declared.begun.Goals as goal

pub returns-then-len-around : goal.returns-then-len-around
returns-then-len-around c outer inside around adds known same =
    let count = same_count c.args.scope.now.locals inside.locals same in
    let few = c.if-len-around.true in
    let len = c.len.ensures in
    none_more inside c.args.name.now outer.locals inside.locals adds (omega (arith, around, count, few, len))

pub returns-in-Some : goal.returns-in-Some
returns-in-Some c outer inside around adds known same =
    let ks = c.args.scope.now.locals in
    let count = same_count ks inside.locals same in
    let more = c.if-len-around.false in
    let len = c.len.ensures in
    let begins = one_more inside c.args.name.now outer.locals inside.locals ks adds (omega (arith, around, count, more, len)) same in
    found_begins inside (find_what ks c.args.name.now) c.in-Some.what.now c.begins.result (added_states inside outer.locals inside.locals) begins
    (sym c.find.ensures ∙ ap (λ o. option_copied o) c.in-Some.is)
    (λ w is. c.begins.ensures inside w known.tags is)

pub returns-in-None : goal.returns-in-None
returns-in-None c outer inside around adds known same =
    let ks = c.args.scope.now.locals in
    let count = same_count ks inside.locals same in
    let more = c.if-len-around.false in
    let len = c.len.ensures in
    let begins = one_more inside c.args.name.now outer.locals inside.locals ks adds (omega (arith, around, count, more, len)) same in
    none_found inside (find_what ks c.args.name.now) (added_states inside outer.locals inside.locals) begins
    (sym c.find.ensures ∙ ap (λ o. option_copied o) c.in-None.is)
