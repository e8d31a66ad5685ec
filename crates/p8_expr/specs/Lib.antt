-- What public contracts cite.
pub mod Words
pub mod Refusals
pub mod Parsing
pub mod Sources
pub mod Cursors
-- internal: the reader of the code.
pub mod Lookaheads
pub mod Views
pub mod Reading
