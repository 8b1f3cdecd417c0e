pub mod Table
pub mod Flat
pub mod Marks
pub mod Unicode
