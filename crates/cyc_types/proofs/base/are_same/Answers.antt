use Rattle.std.proofs.Common.{length, sym, ◌∙◌}
use Rattle.std.proofs.lemmas.Bool.{ne_eqb}
use Rattle.cyc_types.proofs.Lengths.{other_lengths, same_lengths}
use Rattle.cyc_types.proofs.base.are_same.Goals as goal

pub returns-then-here-there : goal.returns-then-here-there
returns-then-here-there c = c.agree.ensures ∙ same_lengths c.args.here.now c.args.there.now c.if-here-there.true

pub returns-else-here-there : goal.returns-else-here-there
returns-else-here-there c =
    ne_eqb (length c.args.here.now) (length c.args.there.now) c.if-here-there.false ∙ sym (other_lengths c.args.here.now c.args.there.now c.if-here-there.false)
