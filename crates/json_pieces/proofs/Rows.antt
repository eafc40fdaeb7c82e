-- The pieces of an object or an array in a row.
pub mod Says
pub mod Parts
pub mod Stands
pub mod Numbers
pub mod Taken
pub mod Put
pub mod Before
pub mod Moves
pub mod Lengths
pub mod Answers
pub mod Steps
pub mod Takes
pub mod Puts
pub mod PutsIn
pub mod Parted
