pub mod Wholes
pub mod Ranges
pub mod Spaces
mod Fixed
