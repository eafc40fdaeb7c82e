pub mod Texts
pub mod MergePatches
pub mod Reasons
pub mod Failures
