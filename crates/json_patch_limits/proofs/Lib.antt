pub mod Charges
pub mod Common
pub mod Depths
pub mod Overs
pub mod Sizes
