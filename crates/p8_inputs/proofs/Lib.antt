mod Digits
pub mod Logging
pub mod Deciding
pub mod Gathering
mod Building
pub mod Reading
mod Coding
mod Filing
pub mod Stopping
mod Outcomes
mod Mapping
mod Naming
mod Viewing
