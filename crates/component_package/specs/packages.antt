-- Components, their packages, and releases with their manifests.
pub mod Numbers
pub mod Component
pub mod Reading
pub mod View
pub mod Grammar
pub mod Manifest
pub mod ManifestSteps
