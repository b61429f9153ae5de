use Rattle.std.proofs.Common.{◌≡◌, ◌∙◌, ℕ, sym, ap, subst, Some, None}
use Rattle.std.specs.Prelude.{option_map}
use Rattle.source_meaning.specs.Programs.{world_of}
use Rattle.source_lowering.specs.Programs.{union_exchange}
use Rattle.lower_checks.specs.Unions.{union_by, union_tree}
use Rattle.lower_checks.specs.Views.{shape_tree, side_tree}
use Rattle.lower_checks.specs.Writing.{IsEmitted}
use Rattle.lower_checks.proofs.Exchanges.{union_exchanged, value_exchanged}
use Rattle.lower_checks.proofs.exchange.lower_held_exchange.Goals as goal

pub returns-in-Some : goal.returns-in-Some
returns-in-Some c sound =
    let w = world_of c.args.program.now in
    let s = shape_tree c.args.shape.now in
    let u = union_tree c.in-Some.known in
    let x = side_tree c.args.left in
    let y = side_tree c.args.right in
    let d = c.args.to.0 in
    let is : union_by w.unions s ≡ Some u = sym c.union_at.ensures.found ∙ ap (option_map union_tree) c.in-Some.is in
    subst (IsEmitted c.args.body.now c.lower_union_exchange.new.body)
    (ap (λ (n : ℕ). union_exchange n d) c.union_words.ensures.words ∙ union_exchanged w x y s u d is) (c.lower_union_exchange.ensures sound)

pub returns-in-None : goal.returns-in-None
returns-in-None c sound =
    let w = world_of c.args.program.now in
    let s = shape_tree c.args.shape.now in
    let is : union_by w.unions s ≡ None = sym c.union_at.ensures.found ∙ ap (option_map union_tree) c.in-None.is in
    let done = c.lower_value_exchange.ensures sound in
    subst (IsEmitted c.args.body.now c.lower_value_exchange.new.body) (value_exchanged w (side_tree c.args.left) (side_tree c.args.right) s c.args.to.0 is
    (c.requires.taken done.sound)) done
