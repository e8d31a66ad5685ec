pub mod Readings
pub mod RowSteps
pub mod Steps
pub mod Constants
pub mod Variables
pub mod Objects
pub mod Heads
pub mod Made
pub mod Going
pub mod Effects
pub mod DataNames
pub mod Operands
pub mod Items
pub mod InstructionsRead
pub mod DataLinesRead
pub mod DataWordsAll
pub mod DataBack
pub mod SpelledWords
pub mod WordCuts
pub mod Runs
pub mod SpelledLines
pub mod LabelWords
pub mod TableWords
pub mod Alike
pub mod WordTokens
pub mod OperandWords
pub mod Heights
pub mod Unquoted
pub mod Printed
pub mod ReadWords
pub mod Elements
pub mod Found
pub mod Forgotten
pub mod Rebuilt
pub mod Keeping
pub mod Values
pub mod Spelt
pub mod Lines
pub mod Printable
pub mod Reread
pub mod Files
mod ProperNames
mod Tables
mod Rows
mod Expressions
mod Placeless
mod PlacelessLines
mod ProperAgain
mod MethodLines
mod AgainLines
mod AgainData
mod ReadLines
mod AgainStatements
mod ProperFiles
pub mod Cutting
pub mod Words
pub mod LongReading
pub mod Texts
pub mod LongRows
pub mod LongFiles
pub mod Bytes
pub mod Names
pub mod Calling
