pub mod Trees
pub mod Loops
pub mod ProperRows
pub mod ProperLines
