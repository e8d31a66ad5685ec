pub mod Crosses
pub mod Memory
pub mod Retyping
pub mod Rows
pub mod Sharing
