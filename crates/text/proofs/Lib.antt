mod Cutting
mod Stepping
mod Growing
mod Conditions
mod Programs
mod Texts
