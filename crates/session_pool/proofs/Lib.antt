pub mod Places
pub mod Clearing
pub mod Following
pub mod Sweeping
pub mod Serving
pub mod Pooling
