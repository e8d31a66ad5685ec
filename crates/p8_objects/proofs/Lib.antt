pub mod Elements
pub mod Finishing
pub mod Items
pub mod Calling
pub mod Logs
mod Ordering
pub mod Wholes
pub mod Agreeing
pub mod Growing
pub mod Sourcing
