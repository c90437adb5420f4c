mod Linearity
mod Bytes
pub mod Endings
