pub mod Stores
pub mod Owned
pub mod Rows
pub mod Reading
pub mod Places
pub mod Unused
pub mod Beside
pub mod Words
