pub mod Differences
pub mod Edits
pub mod Faults
pub mod Merges
pub mod Numerals
pub mod Renumbered
pub mod Spellings
pub mod Tables
