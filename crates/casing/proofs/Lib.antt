pub mod Answers
pub mod Sorted
pub mod Halving
pub mod Reader
pub mod Pages
pub mod Arms
pub mod Expand
pub mod Whole
pub mod Scalars
pub mod Letters
mod Fixed
