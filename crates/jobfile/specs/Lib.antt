pub mod Verdict
pub mod Format
pub mod Refused
pub mod Heard
pub mod Held
pub mod Told
