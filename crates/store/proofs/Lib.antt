pub mod Gathering
pub mod Asking
