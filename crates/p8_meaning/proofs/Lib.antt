pub mod Growing
pub mod GrowingForms
mod Examples
mod Scopes
mod ShortExpressions
mod ShortStatements
mod Meanings
mod FoldingExamples
mod Keeping
mod Lengths
mod Trees
mod Bodies
