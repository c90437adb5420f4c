pub mod Orders
pub mod Places
