pub mod Entries
pub mod KeptRows
pub mod Sheet
pub mod Refusing
pub mod Laying
pub mod OneByOne
pub mod Leaving
pub mod Writing
