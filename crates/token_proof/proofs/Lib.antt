pub mod ExpressionSizes
pub mod StatementSizes
pub mod ProgramSizes
