pub mod Beginning
pub mod Ending
pub mod Fitting
pub mod Inside
pub mod Tables
