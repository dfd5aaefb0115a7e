pub mod Bytes
pub mod Words
pub mod Records
pub mod Blanks
pub mod Decoding
