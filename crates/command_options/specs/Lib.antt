pub mod Arguments
pub mod Given
pub mod Collect
pub mod Follow
pub mod Worked
