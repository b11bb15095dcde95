pub mod Each
pub mod Writing
pub mod RequestLaws
pub mod FaultLaws
pub mod StatusLaws
pub mod StatusWriting
