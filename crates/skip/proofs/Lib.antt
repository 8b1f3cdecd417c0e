pub mod Headers
pub mod Steps
pub mod Meaning
pub mod Sums
pub mod Turn
pub mod Sought
pub mod Lowest5
pub mod Fast
pub mod Answers
mod Fixed
