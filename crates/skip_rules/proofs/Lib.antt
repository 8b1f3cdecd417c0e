pub mod Stated
mod Literal
