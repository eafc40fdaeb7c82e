pub mod Matching
pub mod Reading
pub mod Same
pub mod Trees
