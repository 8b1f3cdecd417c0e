pub mod Headers
pub mod Table
pub mod Rules
pub mod Answers
pub mod Seek
