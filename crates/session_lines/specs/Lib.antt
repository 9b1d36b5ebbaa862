pub mod EventLines
pub mod Laws
pub mod Lines
