pub mod Table
pub mod Unicode
pub mod Printable
