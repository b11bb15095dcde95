pub mod Feeds
pub mod Finding
pub mod OneItem
pub mod LinesOf
pub mod Fronts
pub mod Holding
pub mod NoItem
pub mod Refusals
