pub mod Lent
pub mod Rep
