pub mod Sizes
pub mod Packed
pub mod Contents
pub mod Daily
pub mod OneText
