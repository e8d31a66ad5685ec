pub mod Along
pub mod Columns
pub mod Values
pub mod Places
pub mod Bodies
pub mod Loops
pub mod Cases
pub mod Methods
mod Examples
