pub mod Logs
pub mod Passes
pub mod Plays
pub mod Rule
pub mod PassDesk
pub mod Together
pub mod Meaning
