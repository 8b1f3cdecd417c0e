pub mod Entries
pub mod Cases
mod Fixed
pub mod Counts
pub mod Scalars
