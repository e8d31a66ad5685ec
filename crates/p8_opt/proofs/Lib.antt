mod Constants
mod Holding
mod Linking
mod Linked
mod Tables
pub mod Alike
mod Definitions
pub mod NamedSettings
pub mod Files
pub mod Counting
mod PlacedObjects
pub mod Images
mod Codes
pub mod OwnKinds
pub mod Instances
pub mod Placing
pub mod Frames
mod FirstMethods
mod Texts
mod Results
mod OwnSettings
mod Misused
pub mod Environments
mod Publics
mod Rooms
mod Sounds
pub mod RoomsWays
mod RoomsGlobals
mod LinesThere
mod Agreeing
pub mod Whole
pub mod Labelled
pub mod Own
mod Words
pub mod Proper
pub mod Nesting
pub mod Misuse
mod Starting
mod Depth
mod Fixed
mod Growing
mod Closer
mod Steady
mod Length
mod Expressions
mod Statements
pub mod Methods
pub mod Resolved
pub mod Hiding
pub mod Ready
pub mod Sizes
pub mod Wholes
pub mod Recoded
pub mod Kept
pub mod OneByOne
mod Recoding
pub mod Once
mod Keeping
mod Shorter
mod Mains
