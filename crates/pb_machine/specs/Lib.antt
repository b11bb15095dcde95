pub mod Table
pub mod World
