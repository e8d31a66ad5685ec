-- What public contracts cite.
pub mod Lines
pub mod Columns
pub mod Blocks
pub mod Taken
-- internal: the reader of the proofs and the code, and what the code's values stand for.
pub mod Reader
pub mod Views
