mod Named
mod Assembly
mod Courses
mod Bytecodes
mod Histories
pub mod Back
pub mod Forms
pub mod Judging
pub mod Walking
pub mod Clocks
pub mod Appending
pub mod OneVerdict
mod Words
mod Operators
mod Decoded
mod Limits
mod SpinStates
mod SpinWithin
mod PasmWithin
mod TurnsWithin
mod Filed
