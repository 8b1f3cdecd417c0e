pub mod Refusals
pub mod Scalars
pub mod Values
pub mod Points
pub mod Texts
