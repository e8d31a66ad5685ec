-- What public contracts cite.
pub mod Newest
pub mod Code
pub mod Operands
pub mod Accesses
pub mod Places
pub mod Changes
pub mod Variables
pub mod Control
pub mod Calls
pub mod Moves
pub mod Cogs
pub mod Bytecodes
pub mod Origins
pub mod Replay
pub mod Counters
pub mod Laters
pub mod Standing
pub mod Whole
-- Machinery that only proofs need.
pub mod Reversing
pub mod Ready
pub mod Quick
pub mod Stops
pub mod Laws
pub mod Single
