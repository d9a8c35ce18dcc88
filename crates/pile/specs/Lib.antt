pub mod Pile
pub mod PileLaws
