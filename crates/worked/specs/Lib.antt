pub mod Files
pub mod Worked
