pub mod TestedFirst
pub mod Chains
pub mod SharedChanges
pub mod Elements
pub mod TextTrails
