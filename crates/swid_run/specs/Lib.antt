pub mod Words
pub mod Ends
pub mod Counts
pub mod Limits
pub mod Plain
pub mod Collecting
pub mod Following
