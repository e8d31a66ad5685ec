-- The trees that all definitions of the language speak of, what the code's trees stand for, when two trees are equal but
-- for places, and what a tree that was read satisfies.
pub mod Expressions
pub mod Statements
pub mod Sources
pub mod Projects
pub mod Places
pub mod Lists
pub mod Views
pub mod Forgetting
pub mod Heights
pub mod Nesting
pub mod Names
pub mod Proper
-- Facts on these for the proofs of the crates above: internal.
pub mod Bridges
-- Why a source is refused, and what is told of it.
pub mod Refusals
pub mod Faults
