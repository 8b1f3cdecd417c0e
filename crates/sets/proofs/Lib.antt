pub mod Arms
pub mod Decide
pub mod Places
pub mod Members
pub mod Pairs
pub mod Good
pub mod Unique
pub mod Answers
pub mod Demand
mod Fixed
