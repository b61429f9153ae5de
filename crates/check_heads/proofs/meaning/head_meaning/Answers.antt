use Rattle.std.proofs.Common.{ap, refl, sym, ◌∙◌}
use Rattle.check_heads.specs.Bodies.{types_of}
use Rattle.check_heads.proofs.Signatures.{none_at_fault, sound_means, unsound_means}
use Rattle.check_heads.proofs.meaning.head_meaning.Goals as goal

pub returns-then-is_some : goal.returns-then-is_some
returns-then-is_some c f h is = unsound_means c.args.head f h is (sym c.is_some.ensures ∙ c.if-is_some.true)

pub returns : goal.returns
returns c f h is =
    let none = none_at_fault c.args.head.fault (sym c.is_some.ensures ∙ c.if-is_some.false) in
    sound_means c.args.head f h is _ none c.count-regions.ensures
    (c.in_ok-parameters.ensures ∙ ap (λ ps. types_of ps) c.as_slice.ensures.value)
    c.in_ok-result.ensures refl c.in_ok-bounds.ensures
