-- What public contracts cite.
pub mod Signs
pub mod Diagram
pub mod Tokens
pub mod Lines
-- internal: a reader's steps.
pub mod Stopping
