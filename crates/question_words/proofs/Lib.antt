pub mod PinImages
pub mod FieldNames
pub mod FieldsAbove
pub mod PinStatuses
