use Rattle.std.proofs.Common.{◌-◌, sym, ap, subst, ◌∙◌, drop, length}
use Rattle.check_regions.specs.Names.{AreDistinct, names_of}
use Rattle.check_regions.proofs.Naming.{distinct_taken, first_names}
use Rattle.check_regions.proofs.names.RegionNames.leave.Goals as goal

pub invariant_of-self : goal.invariant_of-self
invariant_of-self c = subst AreDistinct (sym c.truncate.ensures.entries) (distinct_taken c.args.count c.self.inside.names.entries c.self.invariant)

pub returns : goal.returns
returns c =
    ap names_of c.truncate.ensures.entries ∙ first_names c.args.count c.self.inside.names.entries
    ∙ ap (λ ns. drop (length ns - c.args.count) ns) c.self.view_is
