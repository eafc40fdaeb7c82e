pub mod Alike
pub mod Children
pub mod Common
pub mod DocumentOrNot
pub mod Floats
pub mod Members
pub mod SameDocuments
pub mod Writes
