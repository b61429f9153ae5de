use Rattle.std.proofs.Common.{refl, ◌∙◌}
use Rattle.source_typing.specs.Scope.{meant}
use Rattle.check_calls.proofs.TagsNamed.{struct_found}
use Rattle.check_calls.proofs.target.called_target.Goals as goal

pub returns : goal.returns
returns c g has is =
    let x = c.args.name.now in
    c.target_by.ensures (meant g x) is (λ n m. c.struct_named-made.ensures ∙ struct_found c.args.tables.now g has x c.args.at (meant g x) _ n is refl m)
