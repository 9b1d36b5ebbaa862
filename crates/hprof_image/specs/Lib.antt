pub mod Items
pub mod Parts
pub mod Images
pub mod Laws
