pub mod Right
pub mod Whole
pub mod Packed
