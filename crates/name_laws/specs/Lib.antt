pub mod NameImage
pub mod Laws
