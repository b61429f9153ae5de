pub mod StructSamples
pub mod RegionSamples
pub mod UnionSamples
pub mod UniqueSamples
pub mod KeySamples
pub mod RefusedPrograms
