pub mod Boundaries
pub mod Lists
pub mod Buffers
pub mod Orders
pub mod Demand
pub mod Answers
