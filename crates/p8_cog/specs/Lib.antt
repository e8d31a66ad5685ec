-- What public contracts cite.
pub mod Instructions
pub mod Replay
pub mod Standing
pub mod Counters
pub mod Whole
pub mod Lives
pub mod Kinds
pub mod WholeLives
-- Machinery that only proofs need.
pub mod Stops
pub mod Replaying
pub mod Reaching
pub mod Keeping
pub mod Laws
