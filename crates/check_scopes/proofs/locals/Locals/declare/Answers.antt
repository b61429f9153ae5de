use Rattle.std.proofs.Common.{◌≡◌, rules, length, sym, ap, subst, ◌∙◌, Some, if◌then◌else◌}
use Rattle.std.specs.Prelude.{bytes_eq}
use Rattle.check_scopes.specs.Linked.{AreLinked, last_in}
use Rattle.check_scopes.specs.declared.locals.Local.{Local}
use Rattle.check_scopes.proofs.Linking.{linked_more}
use Rattle.check_scopes.proofs.locals.Locals.declare.Goals as goal

pub invariant_of-self-in-Ok : goal.invariant_of-self-in-Ok
invariant_of-self-in-Ok c =
    let old = c.self.inside in
    let local : Local = record { name = c.args.name; what = c.args.what; hidden = c.of-hidden.result } in
    let position : c.len-position.result ≡ length old.all.items = search rules in
    subst (λ locals. AreLinked locals c.add.new.self) (sym c.in_ok-push.ensures.items)
    (linked_more old.all.items local old.last c.add.new.self c.self.invariant c.of-hidden.ensures
    (λ other. c.in-Ok.ensures.added other ∙ ap (λ n. if bytes_eq c.args.name.now other then Some n else last_in old.last other) position))
