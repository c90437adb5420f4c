pub mod Meanings
pub mod Queues
pub mod Patterns
pub mod Drops
pub mod Lends
pub mod Named
pub mod Records
