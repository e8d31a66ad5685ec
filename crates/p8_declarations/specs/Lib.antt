-- The parts of a line, and what the lines of CON, VAR and OBJ and the heads of methods declare.
pub mod Parts
pub mod Constants
pub mod Variables
pub mod Objects
pub mod Methods
pub mod Proper
-- What the code's values stand for: internal.
pub mod Views
-- What public contracts cite.
pub mod DataParts
pub mod Lines
pub mod Rows
-- What only proofs need.
pub mod DataViews
