-- The code of a method, a clause a form.
pub mod Names
pub mod Files
pub mod Pieces
pub mod Variables
pub mod Expressions
pub mod Statements
pub mod Methods
pub mod Depths
pub mod Operations
pub mod Uses
-- How the code stands for pieces: internal.
pub mod Writing
pub mod Labels
pub mod Scopes
pub mod Views
pub mod Walking
