pub mod AfterBelow
pub mod Naming
pub mod Searches
