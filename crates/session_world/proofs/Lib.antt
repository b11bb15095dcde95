pub mod Nows
pub mod Again
pub mod Collecting
pub mod Following
pub mod Entering
pub mod Joining
pub mod Rounds
pub mod Emptying
