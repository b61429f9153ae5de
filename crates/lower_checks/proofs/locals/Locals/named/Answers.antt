use Rattle.std.proofs.Common.{◌≡◌, ◌∙◌, arith, ap, sym, None, Some}
use Rattle.std.specs.Prelude.{option_map, reverse}
use Rattle.source_lowering.specs.Lowered.{InBlock, local_named}
use Rattle.lower_checks.specs.Views.{stored_tree}
use Rattle.lower_checks.specs.Visible.{names_of}
use Rattle.lower_checks.specs.Marks.{found}
use Rattle.lower_checks.proofs.Linking.{depth_few, named_at, visible_named}
use Rattle.lower_checks.proofs.locals.Locals.named.Goals as goal

pub returns-in-Some-clause-named : goal.returns-in-Some-clause-named
returns-in-Some-clause-named c =
    let marks = reverse c.self.inside.marks.items in
    let name = c.args.name.now in
    let is : Some c.in-Some.local ≡ found marks name = sym c.in-Some.is ∙ c.of.ensures ∙ c.self.invariant.means name in
    ap (λ n. Some (record { name = c.in-Some.local.name.now; shape = stored_tree c.in-Some.local.stored; home = InBlock n c.in-Some.local.index }))
    c.saturating_sub.ensures
    ∙ ap (option_map (named_at c.self.inside.depth)) is
    ∙ visible_named marks c.self.inside.last c.self.inside.depth c.self.invariant name
    ∙ ap (λ ms. local_named (names_of ms) name) c.self.view_is

pub returns-in-None-clause-named : goal.returns-in-None-clause-named
returns-in-None-clause-named c =
    let marks = reverse c.self.inside.marks.items in
    let name = c.args.name.now in
    let is : None ≡ found marks name = sym c.in-None.is ∙ c.of.ensures ∙ c.self.invariant.means name in
    ap (option_map (named_at c.self.inside.depth)) is
    ∙ visible_named marks c.self.inside.last c.self.inside.depth c.self.invariant name
    ∙ ap (λ ms. local_named (names_of ms) name) c.self.view_is

-- no more blocks are open than there are marks
pub returns-in-Some-clause-near : goal.returns-in-Some-clause-near
returns-in-Some-clause-near c =
    let marks = c.self.inside.marks in
    omega (arith, c.saturating_sub.ensures, depth_few marks.items c.self.inside.last c.self.inside.depth c.self.invariant, marks.ok.0, marks.ok.1, marks.small)
