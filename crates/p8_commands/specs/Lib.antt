-- What public contracts cite.
pub mod Numbers
pub mod Pins
pub mod Kinds
pub mod Table
pub mod Commands
pub mod Pages
-- Machinery that only proofs need.
pub mod Naming
pub mod Ranges
pub mod Seen
pub mod Taking
