pub mod Guarded
pub mod Partwise
pub mod Size
pub mod Steps
