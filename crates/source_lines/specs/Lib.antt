pub mod Package
pub mod LineItems
pub mod Lines
pub mod LineFaults
