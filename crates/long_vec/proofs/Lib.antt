pub mod Around
pub mod Blocks
pub mod Handing
pub mod Points
pub mod Room
pub mod Splits
