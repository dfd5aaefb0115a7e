pub mod Narrow
pub mod Carrying
pub mod Following
