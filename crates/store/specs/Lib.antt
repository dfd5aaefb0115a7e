pub mod Exported
pub mod Lending
