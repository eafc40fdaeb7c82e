pub mod Given
pub mod Limits
pub mod Reports
pub mod Told
pub mod Documents
pub mod Updates
pub mod Reasons
pub mod States
