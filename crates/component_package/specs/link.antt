-- Sets of components and their images, and the areas and pages that images are made in.
pub mod Sets
pub mod Layout
pub mod Link
pub mod Areas
pub mod Pages
