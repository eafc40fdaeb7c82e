pub mod ChangeComputed
pub mod Document
pub mod Resolve
pub mod Same
pub mod SameComputed
pub mod SameLaws
pub mod Sight
