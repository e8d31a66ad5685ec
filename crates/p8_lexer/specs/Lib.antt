-- What public contracts cite.
pub mod Characters
pub mod Places
pub mod Words
pub mod Meanings
pub mod Table
pub mod Lexing
pub mod Pieces
pub mod Proper
pub mod Spelling
-- What only proofs need.
pub mod Cutting
pub mod Marks
