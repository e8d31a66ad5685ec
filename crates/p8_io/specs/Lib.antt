-- What the public contracts cite.
pub mod Counts
pub mod Shelves
pub mod Sinks
pub mod Memory
pub mod Streams
-- Machinery that only proofs need.
pub mod Contents
