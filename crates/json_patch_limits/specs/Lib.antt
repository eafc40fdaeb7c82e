pub mod OverLimits
pub mod OverLimitsComputed
