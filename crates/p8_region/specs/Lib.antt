-- What public contracts cite.
pub mod Bounded
pub mod Words
-- What private contracts cite.
pub mod Ownership
pub mod Places
