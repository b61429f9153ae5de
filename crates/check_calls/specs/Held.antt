-- View of code: whether something holds of all regions of a type, by its pointers in code.
use Rattle.std.specs.Prelude.{Bool, true}
use Rattle.cyc_types.specs.Regions.{region_of}
use Rattle.cyc_types.specs.declared.layer.Layer.{Layer}
use Rattle.cyc_types.specs.declared.layer.Layer.TheVariants as pointer
use Rattle.source_typing.specs.Regions.{Region}

abbrev pub layer_holds : (Region → Bool) → Layer → Bool
layer_holds holds (pointer.Thin n r) = holds (region_of r)
layer_holds holds (pointer.Fat r) = holds (region_of r)
layer_holds holds (pointer.Unique n) = true
