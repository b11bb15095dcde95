pub mod World
pub mod Lines
pub mod Standing
pub mod Tellings
pub mod Meaning
