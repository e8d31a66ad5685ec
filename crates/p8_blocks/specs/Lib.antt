-- What public contracts cite.
pub mod Values
pub mod Proper
pub mod Trees
pub mod Files
pub mod Reading
pub mod Refusals
-- internal: what the code's blocks so far stand for.
pub mod Standing
