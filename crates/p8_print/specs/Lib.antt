-- What public contracts cite.
pub mod Spelled
pub mod Tables
pub mod Wording
pub mod StatementWords
pub mod DeclarationWords
pub mod DataWords
pub mod Layout
-- internal: what a call writes.
pub mod Writing
