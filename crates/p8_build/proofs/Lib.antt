mod Rows
mod Called
mod Constancy
mod Miscounted
mod Knowing
pub mod Lists
mod Firsts
pub mod Methods
pub mod Ready
pub mod One
mod Sized
mod Refusals
mod Earliest
mod Numbering
mod OneByOne
mod Making
pub mod Wholes
mod Uniqueness
pub mod Here
mod Counting
mod WholeCode
pub mod Measured
