-- What public contracts cite.
pub mod Roles
pub mod Rows
pub mod Statements
pub mod Proper
-- internal: what the code's values stand for.
pub mod Views
