pub mod Again
pub mod Transfers
