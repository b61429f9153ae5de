pub mod Messages
pub mod Methods
pub mod Serving
