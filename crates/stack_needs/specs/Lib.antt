pub mod Graph
pub mod Laws
pub mod Numbers
