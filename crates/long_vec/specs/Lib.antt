pub mod Blocks
pub mod Items
pub mod Walks
