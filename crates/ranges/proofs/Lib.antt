pub mod Held
pub mod Marking
