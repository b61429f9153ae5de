pub mod Naming
mod Tiles
pub mod Layouts
pub mod StaticShapes
pub mod Pointers
pub mod Texts
pub mod Parts
pub mod Exchanges
pub mod MadeNames
pub mod Expressions
pub mod WholeNames
pub mod Statements
pub mod Functions
pub mod Selectable
