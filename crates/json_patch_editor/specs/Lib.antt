pub mod Versions
pub mod Commands
pub mod History
pub mod Shown
