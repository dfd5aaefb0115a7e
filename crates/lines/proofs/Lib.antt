pub mod Parting
pub mod Gathering
pub mod Naming
pub mod Lines
