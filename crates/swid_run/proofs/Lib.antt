pub mod Saying
pub mod OnePlanLaw
pub mod Printing
pub mod Counting
pub mod Faulting
pub mod OneChronicle
pub mod Following
pub mod Running
