pub mod Answers
mod Fixed
pub mod Same
pub mod Inside
pub mod Points
