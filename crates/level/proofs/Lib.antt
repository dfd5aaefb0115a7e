pub mod Ranks
pub mod Sizes
pub mod Choice
pub mod PowerOfTwo
