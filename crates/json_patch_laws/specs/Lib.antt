pub mod Inverse
pub mod Run
pub mod SharedComputed
pub mod Trails
