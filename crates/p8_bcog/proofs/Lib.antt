pub mod Answering
pub mod Keeping
pub mod Looping
pub mod Returning
pub mod OneMore
pub mod FirstBytes
pub mod Taken
mod Counting
