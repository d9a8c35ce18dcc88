pub mod Split
pub mod Wording
