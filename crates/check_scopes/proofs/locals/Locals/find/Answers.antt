use Rattle.std.proofs.Common.{◌≡◌, ◌∙◌, ap, length, refl, sym}
use Rattle.std.specs.Prelude.{None, Some, option_map, slice_get}
use Rattle.std.proofs.lemmas.Option.{slice_get_past, slice_get_read}
use Rattle.check_scopes.specs.Locals.{find_what}
use Rattle.check_scopes.proofs.Linking.{found_at, what_at}
use Rattle.check_scopes.proofs.locals.Locals.find.Goals as goal

pub returns-in-Some-get : goal.returns-in-Some-get
returns-in-Some-get c =
    let locals = c.self.inside.all.items in
    let found : what_at locals (Some c.in-Some.position) ≡ find_what c.args.self.now c.args.name.now =
    ap (what_at locals) (sym c.in-Some.is ∙ c.of.ensures ∙ c.self.invariant.means c.args.name.now) ∙ found_at locals c.args.name.now
    ∙ ap (λ ks. find_what ks c.args.name.now) c.self.view_is in
    let lookup = c.in-Some-get.ensures.lookup in
    let e : slice_get locals c.in-Some.position ≡ Some c.in-Some-get.local.now =
    ap (λ xs. slice_get xs c.in-Some.position) (sym c.deref.ensures.value)
    ∙ slice_get_read c.deref.result.now (length c.deref.result.now) c.in-Some.position c.in-Some-get.local.now refl lookup.3.0 lookup.1 in
    sym (ap (option_map (λ l. l.what)) e) ∙ found

pub returns-in-None-get : goal.returns-in-None-get
returns-in-None-get c =
    let locals = c.self.inside.all.items in
    let found : what_at locals (Some c.in-Some.position) ≡ find_what c.args.self.now c.args.name.now =
    ap (what_at locals) (sym c.in-Some.is ∙ c.of.ensures ∙ c.self.invariant.means c.args.name.now) ∙ found_at locals c.args.name.now
    ∙ ap (λ ks. find_what ks c.args.name.now) c.self.view_is in
    let lookup = c.in-None-get.ensures.lookup in
    let e : slice_get locals c.in-Some.position ≡ None =
    ap (λ xs. slice_get xs c.in-Some.position) (sym c.deref.ensures.value) ∙ slice_get_past c.deref.result.now c.in-Some.position lookup.3 in
    sym (ap (option_map (λ l. l.what)) e) ∙ found

pub returns-in-None : goal.returns-in-None
returns-in-None c =
    let locals = c.self.inside.all.items in
    ap (what_at locals) (sym c.in-None.is ∙ c.of.ensures ∙ c.self.invariant.means c.args.name.now) ∙ found_at locals c.args.name.now
    ∙ ap (λ ks. find_what ks c.args.name.now) c.self.view_is
