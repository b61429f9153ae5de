use Rattle.std.proofs.Common.{◌≡◌, ap, refl, ◌∙◌}
use Rattle.std.specs.Prelude.{None, Option, Some, is_some}
use Rattle.cyc_types.specs.Measures.{measured}
use Rattle.cyc_types.specs.Tags.{members_of}
use Rattle.cyc_types.specs.declared.extent.Extent as code
use Rattle.cyc_types.proofs.StructBytes.{struct_fits}
use Rattle.cyc_types.proofs.tables.Tables.struct_fits.Goals as goal

same_some : (o : Option code.Extent) → is_some o ≡ is_some (measured o)
same_some None = refl
same_some (Some e) = refl

pub returns : goal.returns
returns c s =
    let self = c.args.self.now in
    c.is_some.ensures ∙ same_some c.struct_extent.result ∙ ap (λ o. is_some o) c.struct_extent.ensures
    ∙ struct_fits self.tags.entries self.known s (members_of c.args.members.now)
