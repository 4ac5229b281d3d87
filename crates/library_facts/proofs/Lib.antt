pub mod BaseSignature
