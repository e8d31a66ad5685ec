-- What public contracts cite.
pub mod Words
pub mod Drives
pub mod View
pub mod Nexts
pub mod Ending
pub mod Places
-- How what the code keeps follows a history: internal.
pub mod Following
