pub mod Common
pub mod Divergence
pub mod Filters
pub mod Footprints
