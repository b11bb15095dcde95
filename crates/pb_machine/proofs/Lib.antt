pub mod Worlds
pub mod Agreement
pub mod Sending
