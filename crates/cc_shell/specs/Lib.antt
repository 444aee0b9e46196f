pub mod Files
pub mod Shells
