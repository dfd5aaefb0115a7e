pub mod Laws
pub mod Joining
pub mod Pushing
pub mod Removal
pub mod Count
