pub mod ActionNumber
pub mod ReportType
pub mod ReportForm
pub mod ReportReading
pub mod Laws
pub mod Written
