pub mod Filled
pub mod Merged
pub mod MergedComputed
