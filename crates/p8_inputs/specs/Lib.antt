-- What public contracts cite.
pub mod Programs
pub mod Sources
pub mod Legends
pub mod Pages
pub mod Inputs
pub mod Asks
pub mod Orders
pub mod Seen
pub mod Reads
pub mod Stops
pub mod Runs
-- Machinery that only proofs need.
pub mod Steps
pub mod Gathered
