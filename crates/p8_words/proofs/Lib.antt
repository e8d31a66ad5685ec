pub mod Greatest
pub mod Bits
mod Rotations
