mod FlowExpressions
mod FlowStatements
mod Firsts
