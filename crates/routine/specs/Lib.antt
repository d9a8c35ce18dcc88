pub mod Sets
pub mod Rows
pub mod Tables
pub mod Kept
pub mod Found
pub mod Faults
pub mod Routines
pub mod Wording
