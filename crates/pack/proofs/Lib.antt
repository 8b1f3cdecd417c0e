pub mod Store
pub mod Turns
pub mod Edges
pub mod Outcome
pub mod Runs
pub mod Written
pub mod Listed
pub mod Learnt
pub mod Fast
mod Fixed
