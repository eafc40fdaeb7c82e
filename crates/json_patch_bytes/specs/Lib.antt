pub mod Kinds
pub mod Surrogates
pub mod Bounds
pub mod Texts
pub mod Reasons
pub mod Failures
