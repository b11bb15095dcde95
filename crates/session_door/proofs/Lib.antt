pub mod Counting
pub mod Visiting
pub mod SessionsOver
pub mod StaysRight
