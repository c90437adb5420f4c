pub mod Registers
pub mod KnownValues
