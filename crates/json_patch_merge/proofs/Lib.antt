pub mod Common
pub mod MergeFills
pub mod Merges
