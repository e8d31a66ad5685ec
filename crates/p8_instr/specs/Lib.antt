-- What public contracts cite.
pub mod Instruction
pub mod Conditions
pub mod Mnemonics
pub mod Numerals
pub mod Instructions
