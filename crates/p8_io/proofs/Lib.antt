pub mod Appending
pub mod FilesOf
pub mod Streams
