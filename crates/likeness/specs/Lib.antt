pub mod Likeness
pub mod Needed
