pub mod Rotate
pub mod Tables
pub mod Marks
pub mod Packed
pub mod Reading
pub mod Scan
pub mod Equal
