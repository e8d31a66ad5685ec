-- The operand stack along the paths of a method's code.
pub mod Stack
pub mod Entries
pub mod Paths
