pub mod Composed
pub mod Leads
pub mod Least
