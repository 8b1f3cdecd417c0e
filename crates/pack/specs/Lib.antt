pub mod Packing
pub mod Places
pub mod Answers
