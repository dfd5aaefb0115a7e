pub mod Answers
pub mod Writing
pub mod Reaching
pub mod Turning
pub mod Going
