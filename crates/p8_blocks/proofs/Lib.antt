pub mod Pieces
pub mod Closed
mod Following
mod DeclarationWords
mod Constants
mod Variables
mod Objects
mod Methods
pub mod DataMade
pub mod DataWords
pub mod Data
mod ProperData
mod ReadProper
mod Reading
mod StatementPieces
mod StatementLines
mod StatementReads
pub mod Entering
pub mod Stepping
pub mod Reaching
pub mod Finishing
pub mod After
pub mod Loops
pub mod Depths
pub mod Entries
pub mod Answering
pub mod Firsts
pub mod Saying
pub mod Walks
pub mod Runs
pub mod Items
pub mod Keeping
pub mod Parts
pub mod Walking
pub mod Going
pub mod Agreeing
pub mod Stopping
pub mod Ends
pub mod Passing
pub mod Limits
pub mod ProperLines
pub mod ProperFiles
pub mod ProperTokens
pub mod Lows
pub mod Ending
pub mod Inside
pub mod Settings
pub mod Prefixes
pub mod Fitting
pub mod Refusing
pub mod OneRefusal
pub mod TextLines
pub mod LastBlocks
