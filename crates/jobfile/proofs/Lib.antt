pub mod Formatting
pub mod Hearing
pub mod Judging
