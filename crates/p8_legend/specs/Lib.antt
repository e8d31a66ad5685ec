-- What public contracts cite.
pub mod Ranges
pub mod Legends
pub mod Rows
pub mod ProjectLegends
pub mod Projects
-- What bytecodes name in the frames of their methods.
pub mod Frames
-- The lines of DAT.
pub mod DatLines
-- How the code goes: internal.
pub mod Finding
pub mod Steps
-- What a code's lines say of it.
pub mod Lines
-- Which bytecode asks an access.
pub mod Asking
-- Statements in a memory.
pub mod Standing
-- The statements of rows.
pub mod Origins
-- Addresses that have rows.
pub mod Covering
-- Which statement a table names.
pub mod Naming
-- What a legend tells of an address.
pub mod Telling
-- Which local a turn reads or writes.
pub mod Framing
-- What has a name in the hub, and where.
pub mod Stands
-- The lines of a map.
pub mod MapLines
-- What names are by their kinds.
pub mod Kinded
