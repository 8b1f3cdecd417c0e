pub mod Lengths
pub mod Singletons
pub mod Tables
