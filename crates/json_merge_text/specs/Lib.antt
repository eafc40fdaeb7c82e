pub mod Changes
pub mod Lasts
pub mod Merged
pub mod Merging
pub mod Stands
pub mod Steps
