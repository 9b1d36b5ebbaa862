pub mod Lines
pub mod Loads
pub mod Meant
pub mod OwnForms
