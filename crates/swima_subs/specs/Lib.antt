pub mod Subscriptions
pub mod Meaning
