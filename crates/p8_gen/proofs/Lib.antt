pub mod Rows
pub mod Widths
pub mod Walks
pub mod Tabled
pub mod ByteTables
pub mod Sound
pub mod Spelled
mod Examples
mod FormExamples
