pub mod Driving
pub mod Ran
pub mod RanLaws
pub mod Served
pub mod Followed
