pub mod Joining
pub mod Outcomes
pub mod Courses
pub mod Quiet
pub mod Computed
pub mod Keeping
pub mod Breaking
pub mod Writing
