-- What public contracts cite.
pub mod Windows
pub mod Proper
pub mod Addresses
pub mod Boots
pub mod Lives
pub mod Worlds
pub mod Hub
pub mod Pins
pub mod Histories
pub mod Courses
pub mod Timing
pub mod Replays
-- Machinery that only proofs need.
pub mod Replaying
pub mod Agreeing
-- What the laws speak of.
pub mod Fitting
