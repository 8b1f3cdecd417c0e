pub mod Answers
pub mod Rows
pub mod Listed
pub mod Reading
