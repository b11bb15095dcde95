pub mod Stands
pub mod Outcomes
pub mod Rooms
pub mod Followers
pub mod Servers
