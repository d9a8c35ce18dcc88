pub mod Kinds
pub mod Layout
pub mod Ranges
pub mod Placed
