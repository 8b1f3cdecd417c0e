pub mod Bitsets
pub mod Marks
pub mod Packed
