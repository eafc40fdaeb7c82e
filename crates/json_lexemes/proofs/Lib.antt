mod Words
mod Inside
mod Contents
pub mod Lexing
pub mod Skipping
pub mod Read
pub mod Steps
mod Runs
mod Bits
mod Blocks
mod Masked
pub mod Passed
pub mod Ascii
pub mod Closed
pub mod FirstBytes
pub mod Members
pub mod Elements
pub mod Counted
pub mod Trimmed
pub mod Respelled
pub mod Parsed
pub mod Nests
pub mod Ended
pub mod Completed
pub mod Wide
mod Seen
mod Strings
mod Numbers
mod Following
