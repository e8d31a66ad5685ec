mod Examples
mod Keeping
mod Words
mod Depths
mod Imaging
mod Placing
mod Standing
pub mod Memories
pub mod Cutting
mod Operations
