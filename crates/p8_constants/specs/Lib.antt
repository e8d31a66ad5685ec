-- Graphs, which of their nodes lead to each other, and the order of nodes by numbers.
pub mod Graphs
pub mod Orders
-- How far a search has come: internal.
pub mod Searches
-- What the constants of a file are.
pub mod Items
pub mod Mentions
pub mod Constants
-- How they are found: internal.
pub mod Rows
-- What the items of a file define.
pub mod FileItems
pub mod Names
pub mod Repeats
pub mod Rules
-- What the code's values stand for: internal.
pub mod Standing
