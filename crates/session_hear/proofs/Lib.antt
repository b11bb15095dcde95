pub mod Feeding
pub mod Hearing
pub mod Limits
pub mod Serving
pub mod Reaching
pub mod Reported
pub mod Turning
pub mod Carriage
