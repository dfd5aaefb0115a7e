pub mod Asking
pub mod Marking
pub mod Giving
pub mod Promised
