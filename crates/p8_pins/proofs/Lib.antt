pub mod Rising
pub mod Levels
pub mod Walks
pub mod Texts
pub mod Scripting
mod Turning
mod Eights
mod Walking
mod Telling
mod Ends
pub mod Passing
