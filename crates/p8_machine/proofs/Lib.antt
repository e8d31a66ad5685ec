pub mod Settled
pub mod Rows
pub mod Announced
pub mod Counting
pub mod Turning
pub mod Eight
