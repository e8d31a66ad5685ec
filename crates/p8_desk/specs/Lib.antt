-- What public contracts cite.
pub mod Passes
pub mod PassSets
pub mod Tries
pub mod Closing
-- Machinery that only proofs need.
pub mod Rules
pub mod Runners
pub mod Seats
pub mod Gathering
