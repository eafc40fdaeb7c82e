pub mod Apart
pub mod Filters
pub mod Footprints
