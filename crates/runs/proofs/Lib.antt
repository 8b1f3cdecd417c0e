mod Lengths
mod Pairs
pub mod Places
mod Fixed
pub mod Boundaries
pub mod Points
pub mod Unions
pub mod Spans
pub mod Flat
