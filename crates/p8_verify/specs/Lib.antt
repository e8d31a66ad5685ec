-- What public contracts cite.
pub mod Halts
pub mod Table
pub mod Bytes
pub mod Files
pub mod Verdicts
pub mod Answers
-- internal: what a walk along the records tells.
pub mod Told
-- internal: how a record is read.
pub mod Reading
-- internal: which turns have a record.
pub mod Fitting
