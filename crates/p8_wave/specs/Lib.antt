-- What public contracts cite.
pub mod Variables
pub mod Values
pub mod Scale
pub mod Ending
pub mod Wave
pub mod Axes
pub mod Plot
-- Internal.
pub mod Following
pub mod Walks
pub mod Parts
pub mod Sections
pub mod Tracing
