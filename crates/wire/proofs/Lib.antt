pub mod Identifiers
pub mod Sameness
pub mod Codes
pub mod Spelling
pub mod Multiplexors
pub mod Nearness
