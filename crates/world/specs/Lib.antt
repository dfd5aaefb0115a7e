pub mod Stands
pub mod Tables
pub mod Refusals
