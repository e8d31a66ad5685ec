mod Putting
mod Objects
mod Advancing
mod Entering
mod Showing
mod OwnNames
pub mod TwoFaults
pub mod Equal
mod LookingAt
mod LocalLabels
mod Shown
pub mod Settling
mod RightSettings
mod AllFaults
mod MethodSteps
mod AllMethods
mod Numbering
mod Targets
mod Looking
mod Descending
mod OneChild
mod OneRow
mod ShowingChildren
pub mod Bounds
pub mod Counts
pub mod Words
pub mod Seen
pub mod Distinct
pub mod Own
