pub mod Fuel
pub mod Trees
pub mod Endless
pub mod IntegerSamples
pub mod PointerSamples
pub mod RegionSamples
pub mod KeySamples
pub mod UniqueSamples
pub mod OrderSamples
pub mod MixedSamples
pub mod FormSamples
pub mod CallSamples
pub mod ConversionSamples
pub mod BeginningSamples
pub mod StuckSamples
pub mod MoveSamples
pub mod Cases
pub mod Layouts
pub mod Firsts
pub mod Reaches
pub mod PlainExpressions
pub mod Kept
pub mod Forms
pub mod Quiet
mod ShapeSamples
mod BoundSamples
mod CalleeSamples
