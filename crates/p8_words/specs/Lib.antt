-- What the public contracts cite.
pub mod Words
-- What public contracts cite.
pub mod Operators
-- What public contracts cite.
pub mod Fields
