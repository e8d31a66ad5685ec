pub mod Apart
pub mod Counting
pub mod Every
pub mod Leading
pub mod Silent
