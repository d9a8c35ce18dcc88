pub mod Falling
pub mod Unrolled
