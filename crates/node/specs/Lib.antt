pub mod Buffers
pub mod States
pub mod Steps
pub mod Nodes
pub mod Laws
pub mod Runs
