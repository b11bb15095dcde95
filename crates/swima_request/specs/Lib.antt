pub mod AttributeTypes
pub mod RequestForm
pub mod Laws
pub mod StatusForm
pub mod StatusLaws
