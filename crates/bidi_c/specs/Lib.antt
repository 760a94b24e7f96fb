pub mod Held
pub mod Mirroring
pub mod Versions
