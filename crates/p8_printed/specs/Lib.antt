-- What public contracts cite.
pub mod Kinds
pub mod Reading
pub mod Lexemes
pub mod Rereading
pub mod Trees
-- What the public contracts cite.
pub mod ReadBack
