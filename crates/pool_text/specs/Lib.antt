pub mod Text
pub mod Endings
pub mod Worked
