pub mod States
pub mod Lines
pub mod Calls
pub mod Cases
