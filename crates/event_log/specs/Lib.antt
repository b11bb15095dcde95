pub mod Log
pub mod Meaning
