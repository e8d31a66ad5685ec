-- What the names of a file are, and which uses they fit.
pub mod Kinds
pub mod Publics
pub mod Uses
pub mod Environments
pub mod Misuses
pub mod FileSettings
-- What the code computes, and what the maps hold: internal.
pub mod FirstMisuses
pub mod Entries
