-- What public contracts cite.
pub mod Jobs
pub mod Ends
pub mod Starts
-- What only inner contracts cite.
pub mod Crews
