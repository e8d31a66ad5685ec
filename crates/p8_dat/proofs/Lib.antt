pub mod ToldOfLine
pub mod Printing
pub mod Settings
pub mod Rows
pub mod LocalLabels
pub mod Told
pub mod WholeFiles
