pub mod Promise
pub mod Laws
