pub mod Numbers
pub mod Bytes
pub mod Drives
pub mod Laws
pub mod Objects
