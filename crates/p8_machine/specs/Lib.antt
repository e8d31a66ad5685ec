-- What public contracts cite.
pub mod Machines
pub mod Asked
pub mod Counted
-- How a machine stands for its history, which the contract of its step cites.
pub mod Places
pub mod Standing
