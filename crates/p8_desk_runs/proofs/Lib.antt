pub mod Returning
pub mod Spreading
