pub mod Stands
pub mod Demands
pub mod Scripts
