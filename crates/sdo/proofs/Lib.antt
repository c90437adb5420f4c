pub mod FieldsBack
pub mod Joining
pub mod RoundTrips
pub mod Spelling
pub mod Sameness
pub mod Comparing
