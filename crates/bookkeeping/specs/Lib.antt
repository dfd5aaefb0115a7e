pub mod Blocks
pub mod Claim
pub mod Good
pub mod Moves
