pub mod Kind
pub mod Codes
pub mod FindingKinds
pub mod Findings
pub mod Identifier
