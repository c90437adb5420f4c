pub mod Answers
pub mod Arguments
pub mod Devices
pub mod Lines
pub mod Names
pub mod Numbers
pub mod Words
