pub mod Serving
pub mod Refused
