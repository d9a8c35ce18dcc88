pub mod Contents
pub mod Weigh
pub mod Stands
pub mod Closing
pub mod Wording
