pub mod Places
pub mod WholeSums
