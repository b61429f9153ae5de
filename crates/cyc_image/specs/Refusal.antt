-- Believed: which refusal applies to bytes.
use Rattle.std.specs.Prelude.{◌≡◌, ℕ, List, take, Option, Some, None}
use Rattle.cyc_image.specs.declared.fault.ImageFault.{ImageFault}
use Rattle.cyc_image.specs.declared.fault.ImageFault.TheVariants.{Short, Magic, Version, Limit, Entry, Trailing, Memory}
use Rattle.cyc_image.specs.Format.{IsShort, magic, HasOtherVersion, IsPastLimit, HasBadEntry, HasTrailing, RefusedAsMagic, RefusedAsVersion, RefusedAsLimit}
use Rattle.cyc_image.specs.Format.{RefusedAsEntry, RefusedAsTrailing}

-- no refusal applies
pub record IsAccepted (bytes : List ℕ) : Type 0 where
  pub whole : ¬ IsShort bytes
  pub same_magic : take 4 bytes ≡ magic
  pub same_version : ¬ HasOtherVersion bytes
  pub within : ¬ IsPastLimit bytes
  pub good_entry : ¬ HasBadEntry bytes
  pub ended : ¬ HasTrailing bytes

-- this refusal is the first that applies
abbrev pub RefusedAs : ImageFault → List ℕ → Type 0
RefusedAs Short bytes = IsShort bytes
RefusedAs Magic bytes = RefusedAsMagic bytes
RefusedAs Version bytes = RefusedAsVersion bytes
RefusedAs Limit bytes = RefusedAsLimit bytes
RefusedAs Entry bytes = RefusedAsEntry bytes
RefusedAs Trailing bytes = RefusedAsTrailing bytes
RefusedAs Memory bytes = ⊥

-- the first refusal that applies, or none does
abbrev pub IsVerdict : List ℕ → Option ImageFault → Type 0
IsVerdict bytes None = IsAccepted bytes
IsVerdict bytes (Some fault) = RefusedAs fault bytes
