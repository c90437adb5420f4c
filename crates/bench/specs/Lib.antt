pub mod Model
pub mod Law
pub mod Answers
pub mod Numbers
pub mod States
pub mod Tickets
