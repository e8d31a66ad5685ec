-- What public contracts cite.
pub mod Worlds
pub mod Turns
pub mod Seats
pub mod Standing
pub mod Records
pub mod Ledgers
pub mod Advances
-- Machinery that only proofs need.
pub mod Waiting
pub mod Coming
pub mod Fronts
pub mod Dues
pub mod Granted
