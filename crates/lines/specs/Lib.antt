pub mod Buffers
pub mod Inputs
pub mod Numbers
pub mod Texts
