pub mod Table
pub mod Unicode
pub mod Planes
pub mod Readable
