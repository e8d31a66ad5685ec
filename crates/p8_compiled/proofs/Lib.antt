pub mod Meets
pub mod Stack
pub mod Places
pub mod Stepping
pub mod Forms
pub mod Evaluating
pub mod Executing
pub mod Ends
pub mod Methods
mod Examples
pub mod Calling
pub mod Builtins
mod Following
mod Starts
mod Assembly
mod Sources
mod SourceForms
mod SourceLives
mod SpinLives
mod Histories
mod FewBytecodes
mod EachLife
mod CodeTold
pub mod Truths
pub mod Fetching
pub mod Standing
pub mod Choices
pub mod Operands
pub mod Bytecodes
pub mod Tests
pub mod Memory
pub mod Homes
pub mod Changing
pub mod Effects
pub mod Jumping
pub mod Uses
pub mod TemplateBuiltins
pub mod Values
pub mod Statements
pub mod Lengths
pub mod TemplateMethods
pub mod Moving
mod TemplateExamples
