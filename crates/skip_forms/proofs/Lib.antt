pub mod Flat
pub mod Filled
pub mod Packed
pub mod Fixed
pub mod Equal
