-- A project as its source's meaning reads it, and where its image has it.
pub mod Programs
pub mod Recoding
pub mod Meaning
pub mod Lines
-- Machinery that only proofs need.
pub mod Agreements
-- What is asked of the constants and the names of a file, for the laws of folded methods.
pub mod Asked
-- What a project is built to with shorter code of the same meaning.
pub mod Shorts
-- What building with it promises of its image.
pub mod Shorter
-- The codes that an accepted project then has.
pub mod Shortening
-- What each step of that comes to: internal.
pub mod Steps
-- What public contracts cite.
pub mod Loads
