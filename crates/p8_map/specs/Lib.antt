-- What public contracts cite.
pub mod Names
pub mod Strings
pub mod Map
pub mod Projects
-- Machinery that only proofs need.
pub mod Accepting
pub mod Stretches
