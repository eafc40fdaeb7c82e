pub mod Common
pub mod PatchFaults
pub mod PatchValues
pub mod SaidTexts
pub mod SameOperations
pub mod Texts
