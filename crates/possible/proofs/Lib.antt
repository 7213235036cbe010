pub mod Fits
pub mod Lists
pub mod Holding
