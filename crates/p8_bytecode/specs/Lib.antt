-- What the public contracts cite.
pub mod Table
pub mod Reading
pub mod Spelling
