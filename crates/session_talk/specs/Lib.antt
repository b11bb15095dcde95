pub mod Talk
pub mod Course
pub mod Given
pub mod Keeping
