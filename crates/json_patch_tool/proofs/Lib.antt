pub mod MovedBytes
pub mod Runs
