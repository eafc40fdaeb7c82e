pub mod AsRead
pub mod Documents
pub mod Matching
pub mod Told
pub mod Trees
