-- What public contracts cite.
pub mod Lists
pub mod Sources
pub mod Projects
pub mod Outcomes
pub mod Growing
pub mod Orders
pub mod Whole
-- internal: what the code keeps while it gathers.
pub mod Standing
pub mod Mentioned
pub mod Reading
pub mod Goings
