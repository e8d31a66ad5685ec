-- The texts of a method.
pub mod Strings
-- What the code's values stand for.
pub mod Views
-- What the public contracts cite.
pub mod Parts
pub mod Files
pub mod Builds
pub mod Arguments
pub mod Told
pub mod Sizes
pub mod Accepted
-- internal: what the code's steps come to.
pub mod Faults
pub mod Numbers
pub mod Coding
pub mod Phases
pub mod Measuring
pub mod Searching
