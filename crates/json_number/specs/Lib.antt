pub mod Numbers
pub mod Digits
