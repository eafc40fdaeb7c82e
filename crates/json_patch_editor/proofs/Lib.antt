pub mod Histories
pub mod Replying
