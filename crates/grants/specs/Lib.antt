pub mod Granting
pub mod Loans
