pub mod Ordering
mod Parting
mod Placing
