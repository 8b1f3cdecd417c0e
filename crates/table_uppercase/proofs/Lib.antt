pub mod Right
pub mod Whole
