pub mod AnswerLaws
pub mod Choosing
pub mod CommitLaws
pub mod OnceLaws
pub mod RunLaws
pub mod Sorting
pub mod TimeLaws
pub mod Turning
