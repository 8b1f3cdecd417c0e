pub mod Parts
pub mod Walked
