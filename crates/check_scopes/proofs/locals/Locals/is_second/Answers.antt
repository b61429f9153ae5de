use Rattle.std.proofs.Common.{◌∙◌, ap, sym}
use Rattle.check_scopes.specs.Linked.{known_of}
use Rattle.check_scopes.specs.Locals.{is_after}
use Rattle.check_scopes.proofs.Linking.{is_after_by, is_past}
use Rattle.check_scopes.proofs.locals.Locals.is_second.Goals as goal

pub returns-in-Some : goal.returns-in-Some
returns-in-Some c =
    let known = known_of c.self.inside.all.items in
    ap (is_past c.args.outer) (sym c.in-Some.is ∙ c.of.ensures ∙ c.self.invariant.means c.args.name.now)
    ∙ is_after_by known c.args.outer c.args.name.now
    ∙ ap (λ ks. is_after ks c.args.outer c.args.name.now) c.self.view_is

pub returns-in-None : goal.returns-in-None
returns-in-None c =
    let known = known_of c.self.inside.all.items in
    ap (is_past c.args.outer) (sym c.in-None.is ∙ c.of.ensures ∙ c.self.invariant.means c.args.name.now)
    ∙ is_after_by known c.args.outer c.args.name.now
    ∙ ap (λ ks. is_after ks c.args.outer c.args.name.now) c.self.view_is
