pub mod Testing
pub mod Reporting
