-- What a refusal says to a person.
pub mod Entries
pub mod Explaining
pub mod Causes
pub mod Standing
pub mod Slips
pub mod Sizes
