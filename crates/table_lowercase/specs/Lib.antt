pub mod Table
pub mod Flat
pub mod Unicode
pub mod Inside
