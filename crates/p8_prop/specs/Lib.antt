-- What public contracts cite.
pub mod Texts
pub mod Headline
pub mod Codes
pub mod Verdicts
pub mod Promises
pub mod Words
pub mod Tokens
pub mod Cutting
pub mod DeclaredLines
pub mod DataLines
pub mod StatementLines
pub mod Sources
pub mod Names
pub mod Images
pub mod Runs
pub mod Shorts
pub mod RunLaws
pub mod Saved
-- Machinery that only proofs need.
pub mod Works
pub mod Answers
