-- View of code: a region that is lent.
use Rattle.std.specs.Prelude.{◌≡◌, ℕ, Option, slice_set}
use Rattle.std.specs.Borrow.{LendsSo, MutBor, Fml}
use Rattle.std.specs.Option.{OnSome}
use Rattle.core_eval.specs.declared.regions.Regions as code_regions
use Rattle.core_eval.specs.declared.region.Region as code
use Rattle.core_eval.specs.contracts.regions.Regions as regions
use Rattle.core_eval.specs.contracts.region.Region as region
use Rattle.core_eval.specs.Regions.{held_region, regions_of}

-- the region with a number is the last value behind r; nothing else changes
abbrev pub LendsRegion : MutBor code_regions.Regions → ℕ → Option (MutBor code.Region) → Fml
LendsRegion s n r =
    LendsSo regions.the_row region.the_row s r
    (λ now region. OnSome r (regions_of now ≡ slice_set (regions_of s.now) n (held_region region)))
    (λ now. regions_of now ≡ regions_of s.now)
