pub mod CodeNumbers
pub mod AbortCodes
pub mod Multiplexors
pub mod Ranges
pub mod Frames
pub mod Texts
pub mod Equality
