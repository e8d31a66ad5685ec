-- What the public contracts cite.
pub mod Encoding
pub mod Printed
-- What the code computes, the first fault at once: internal.
pub mod FirstOfLine
-- Where the lines of DAT stand, what bytes stand there, which labels a line sees, and what is wrong.
pub mod Spots
pub mod Names
pub mod Bytes
pub mod Faults
pub mod Blocks
pub mod Labels
pub mod Lines
-- What the code computes, the first fault at once, and what its lists stand for: internal.
pub mod First
pub mod Placing
