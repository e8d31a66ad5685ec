mod Examples
pub mod Firsts
pub mod Failing
