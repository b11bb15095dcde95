pub mod ReportLaws
pub mod FaultLaws
pub mod Writing
pub mod Fitting
