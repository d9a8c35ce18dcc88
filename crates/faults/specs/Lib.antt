pub mod Faults
pub mod Wording
