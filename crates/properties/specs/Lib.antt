pub mod WhiteSpace
pub mod Control
pub mod Properties
