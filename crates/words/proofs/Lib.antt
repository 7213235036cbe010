pub mod Decimal
pub mod Cases
