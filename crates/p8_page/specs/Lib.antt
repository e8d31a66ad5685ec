-- What public contracts cite.
pub mod Blocks
pub mod Kept
pub mod Page
