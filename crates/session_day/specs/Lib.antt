pub mod Package
pub mod Packages
pub mod Day
pub mod Days
pub mod OneText
