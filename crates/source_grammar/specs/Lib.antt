pub mod Phrases
pub mod TypeGrammar
pub mod ExpressionGrammar
pub mod StatementGrammar
pub mod Grammar
