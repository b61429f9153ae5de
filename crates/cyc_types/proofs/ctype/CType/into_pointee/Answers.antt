use Rattle.cyc_types.specs.Bases.{base_type}
use Rattle.cyc_types.proofs.Converting.{without_last}
use Rattle.cyc_types.proofs.ctype.CType.into_pointee.Goals as goal

pub returns : goal.returns
returns c = without_last c.args.self.layers.items c.pop.new.self.items (base_type c.args.self.base) c.pop.ensures.rest
