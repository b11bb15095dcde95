pub mod Wording
pub mod Scripting
pub mod ReplayTelling
pub mod Playings
pub mod OneWord
pub mod OneText
