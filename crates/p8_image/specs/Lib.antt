-- What public contracts cite.
pub mod Headers
pub mod Loading
pub mod Messages
pub mod Clocks
pub mod Layout
pub mod Projects
pub mod Places
pub mod Listing
-- Internal.
pub mod Keeping
pub mod Images
pub mod Cutting
