pub mod Script
pub mod Replay
pub mod Played
pub mod OneText
