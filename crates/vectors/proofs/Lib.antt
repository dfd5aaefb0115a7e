pub mod Framing
pub mod Counting
