-- internal
pub mod Places
