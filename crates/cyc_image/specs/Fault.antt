-- View of code: the names of the faults of images.
use Rattle.std.specs.Prelude.{ℕ, List, codes}
use Rattle.cyc_image.specs.declared.fault.ImageFault.{ImageFault}
use Rattle.cyc_image.specs.declared.fault.ImageFault.TheVariants.{Short, Magic, Version, Limit, Entry, Trailing, Memory}

-- the text of a fault
abbrev pub image_fault_name : ImageFault → List ℕ
image_fault_name Short = codes "Short"
image_fault_name Magic = codes "Magic"
image_fault_name Version = codes "Version"
image_fault_name Limit = codes "Limit"
image_fault_name Entry = codes "Entry"
image_fault_name Trailing = codes "Trailing"
image_fault_name Memory = codes "Memory"
