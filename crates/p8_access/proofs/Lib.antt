pub mod Nexts
pub mod Rising
pub mod OneHistory
pub mod Changes
mod Agreeing
