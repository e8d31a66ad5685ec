pub mod Packing
pub mod Naming
pub mod Entries
mod Digits
mod Pairs
