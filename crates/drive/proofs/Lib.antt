pub mod Readings
pub mod Setting
pub mod Taking
