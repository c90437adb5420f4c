pub mod Runs
pub mod Courses
pub mod Books
pub mod Watches
pub mod Law
pub mod Sentences
pub mod Commits
pub mod VerdictLayers
