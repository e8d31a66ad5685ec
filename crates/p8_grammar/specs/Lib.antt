-- What public contracts cite.
pub mod Lexemes
pub mod Grammar
pub mod Heights
pub mod Proper
pub mod Views
-- internal: the reader of the proofs.
pub mod Machine
pub mod Least
pub mod Outcomes
pub mod Growing
