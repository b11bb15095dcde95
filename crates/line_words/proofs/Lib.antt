pub mod Wording
pub mod Finding
