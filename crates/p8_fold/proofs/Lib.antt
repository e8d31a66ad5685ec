pub mod Bytes
pub mod ValueRows
pub mod Judging
pub mod Judged
pub mod Agreeing
