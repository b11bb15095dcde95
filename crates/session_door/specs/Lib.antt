pub mod Visits
pub mod Serving
pub mod Following
