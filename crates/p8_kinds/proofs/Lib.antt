pub mod Alike
pub mod Methods
pub mod Rows
pub mod Scopes
pub mod StatementRows
pub mod Tables
pub mod Told
