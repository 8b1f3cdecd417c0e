pub mod Unpacking
pub mod Flow
pub mod Left
pub mod Answers
