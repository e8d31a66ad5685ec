-- What a method is compiled to, and which method can't be.
pub mod Methods
-- How the code walks: internal.
pub mod Cutting
pub mod Walking
pub mod Spelled
pub mod Telling
-- The least set of jumps with two bytes for their offset.
pub mod Jumps
-- Its rounds: internal.
pub mod Rounds
