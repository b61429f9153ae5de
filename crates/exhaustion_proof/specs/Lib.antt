pub mod Room
pub mod Laws
