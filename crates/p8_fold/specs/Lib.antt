-- What names mean to an expression, its value and its faults.
pub mod Meanings
pub mod ConstantEntries
pub mod Values
pub mod Agreement
-- What the code computes, a value or the first fault at once: internal.
pub mod Verdicts
