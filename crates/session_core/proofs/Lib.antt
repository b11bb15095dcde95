pub mod Driving
pub mod Ends
pub mod OwnEnds
pub mod Serving
pub mod Following
