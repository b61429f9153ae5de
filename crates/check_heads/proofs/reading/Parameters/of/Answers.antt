use Rattle.std.proofs.Common.{[], map, subst}
use Rattle.cyc_tree.specs.View.{member_tree}
use Rattle.check_heads.specs.Reading.{AreRead}
use Rattle.check_heads.proofs.reading.Parameters.of.Goals as goal

pub returns : goal.returns
returns c g tags =
    subst (λ xs. AreRead g c.add_all.new.self.variables c.add_all.new.self.items.items (map member_tree xs)) c.deref.ensures.value
    (c.in_ok-add_all.ensures g [] tags (c.new-parameters.ensures g))
