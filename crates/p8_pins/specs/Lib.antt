-- What public contracts cite.
pub mod Scripts
pub mod Matches
pub mod Levels
pub mod LevelChanges
-- Internal to the crate.
pub mod Changes
pub mod Readings
-- Internal.
pub mod Driving
pub mod Walks
