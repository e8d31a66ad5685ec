-- That bytecodes do what a source says.
pub mod Courses
pub mod Depths
pub mod Standing
pub mod Bodies
pub mod Keeps
-- The lives of a history, and that those of Spin are told by a source.
pub mod Lives
pub mod Told
-- What the public contracts cite.
pub mod Placing
pub mod Agreeing
pub mod Moving
