-- What public contracts cite.
pub mod Bytecodes
pub mod Operations
pub mod Sources
pub mod Listing
pub mod Images
pub mod Projects
pub mod Laws
-- Machinery that only proofs need.
pub mod Views
pub mod Accepting
pub mod Steps
