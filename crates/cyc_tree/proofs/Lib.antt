pub mod Forms
pub mod StatementForms
pub mod PartForms
pub mod Greatest
pub mod PartNesting
pub mod PartDepths
pub mod DeepestPhrases
pub mod NestingSteps
