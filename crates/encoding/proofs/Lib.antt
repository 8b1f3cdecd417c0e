mod Bits
mod Rows
pub mod Tables
mod Examples
pub mod Agree
mod Fixed
