-- What public contracts cite.
pub mod Made
pub mod Summary
pub mod Finishes
pub mod Checks
