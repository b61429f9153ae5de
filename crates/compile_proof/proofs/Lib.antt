pub mod Frames
pub mod DoesAsSource
pub mod Data
pub mod LowerableDo
pub mod NamedApart
pub mod DataWithin
pub mod AcceptedDo
