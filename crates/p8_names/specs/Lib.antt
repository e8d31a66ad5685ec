-- What the names of a file mean and are, what is wrong with them, and what resolving them gives.
pub mod Settings
pub mod Kinds
pub mod Faults
pub mod Resolution
-- internal: what the code's steps change.
pub mod Changes
pub mod Counting
pub mod Looking
pub mod Regions
pub mod Resolving
pub mod Beginning
-- What each file of a project sees of the files of its objects.
pub mod Mentions
pub mod Children
-- internal: what is known while it is found.
pub mod Finding
-- What resolved names are.
pub mod Words
pub mod Own
