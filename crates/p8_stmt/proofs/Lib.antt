mod Walks
mod Whole
mod Depths
mod Telling
mod Locals
mod Coded
pub mod Steps
pub mod Choices
pub mod Held
pub mod Least
pub mod Sizes
