pub mod Goals
pub mod Operating
pub mod Pointers
pub mod StructMembers
pub mod TypeKinds
pub mod Values
