-- View of code: conversions, by the outermost pointers of two types.
use Rattle.std.specs.Prelude.{Bool, None, Option, Some, option_map, ℕ}
use Rattle.source_meaning.specs.Shapes.{may_be_null}
use Rattle.source_typing.specs.Conversions.{if_enough, nullable, ordered, unless_differs}
use Rattle.source_typing.specs.Faults.{outlives_rule, region_rule, type_rule}
use Rattle.source_typing.specs.Regions.{Regions}
use Rattle.source_typing.specs.Types.{Match}
use Rattle.cyc_types.specs.Layers.{has_enough}
use Rattle.cyc_types.specs.Reaches.{reach_of}
use Rattle.cyc_types.specs.Regions.{region_of}
use Rattle.cyc_types.specs.declared.conversion.Broken.{Broken}
use Rattle.cyc_types.specs.declared.conversion.Broken.TheVariants as rule
use Rattle.cyc_types.specs.declared.layer.Layer.{Layer}
use Rattle.cyc_types.specs.declared.layer.Layer.TheVariants as code

abbrev pub number_of : Broken → ℕ
number_of rule.Typing = type_rule
number_of rule.Region = region_rule
number_of rule.Outlives = outlives_rule

abbrev pub rule_of : Option Broken → Option ℕ
rule_of r = option_map number_of r

-- `NULL` to a pointer
abbrev pub null_rule : Layer → Option ℕ
null_rule (code.Thin n r) = nullable (may_be_null (reach_of n))
null_rule (code.Fat r) = None
null_rule (code.Unique n) = nullable n

-- a pointer to a pointer that leads to no more elements, by how alike the types are that they lead to, and by whether the first one's region outlives the
-- other's
abbrev pub bounded_rule : Layer → Layer → Match → Bool → Option ℕ
bounded_rule (code.Unique n) (code.Unique m) inner outlives = unless_differs inner None (Some outlives_rule)
bounded_rule (code.Unique n) (code.Thin m q) inner outlives = unless_differs inner (Some region_rule) (Some region_rule)
bounded_rule (code.Unique n) (code.Fat q) inner outlives = unless_differs inner (Some region_rule) (Some region_rule)
bounded_rule (code.Thin n r) (code.Unique m) inner outlives = unless_differs inner (Some region_rule) (Some region_rule)
bounded_rule (code.Fat r) (code.Unique m) inner outlives = unless_differs inner (Some region_rule) (Some region_rule)
bounded_rule (code.Thin n r) (code.Thin m q) inner outlives = unless_differs inner (ordered outlives) (Some outlives_rule)
bounded_rule (code.Thin n r) (code.Fat q) inner outlives = unless_differs inner (ordered outlives) (Some outlives_rule)
bounded_rule (code.Fat r) (code.Thin m q) inner outlives = unless_differs inner (ordered outlives) (Some outlives_rule)
bounded_rule (code.Fat r) (code.Fat q) inner outlives = unless_differs inner (ordered outlives) (Some outlives_rule)

abbrev pub pointer_rule : Layer → Layer → Match → Bool → Option ℕ
pointer_rule l k inner outlives = if_enough (has_enough l k) (bounded_rule l k inner outlives)

-- whether a pointer's region outlives another's; without regions it is as it may be
abbrev pub layers_ordered : Regions → Bool → Layer → Layer → Bool
layers_ordered g any (code.Thin n r) (code.Thin m q) = g.order (region_of r) (region_of q)
layers_ordered g any (code.Thin n r) (code.Fat q) = g.order (region_of r) (region_of q)
layers_ordered g any (code.Fat r) (code.Thin m q) = g.order (region_of r) (region_of q)
layers_ordered g any (code.Fat r) (code.Fat q) = g.order (region_of r) (region_of q)
layers_ordered g any (code.Unique n) k = any
layers_ordered g any (code.Thin n r) (code.Unique m) = any
layers_ordered g any (code.Fat r) (code.Unique m) = any

-- the same of two types by their outermost pointers
abbrev pub outer_ordered : Regions → Bool → Option Layer → Option Layer → Bool
outer_ordered g any (Some l) (Some k) = layers_ordered g any l k
outer_ordered g any (Some l) None = any
outer_ordered g any None k = any
