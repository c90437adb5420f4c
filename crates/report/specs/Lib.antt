pub mod Refusals
pub mod Reports
