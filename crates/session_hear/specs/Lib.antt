pub mod Step
pub mod Hearing
pub mod Serving
pub mod Carriage
