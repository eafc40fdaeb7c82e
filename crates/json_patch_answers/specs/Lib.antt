pub mod Answer
pub mod CommandList
pub mod Converted
pub mod Editing
pub mod Input
pub mod Modes
pub mod Recording
pub mod Statuses
