pub mod Went
pub mod Joining
