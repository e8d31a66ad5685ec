-- What public contracts cite.
pub mod Spots
pub mod Rules
pub mod FileFacts
pub mod Sentences
pub mod Hints
pub mod Projects
-- Machinery that only proofs need.
pub mod SpotViews
pub mod Tables
pub mod Shown
pub mod Accepting
