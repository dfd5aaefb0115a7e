pub mod Queueing
pub mod Reclaiming
pub mod Rounding
