pub mod Hex
pub mod Lines
pub mod Methods
pub mod Pieces
pub mod Reasons
pub mod Texts
pub mod Written
