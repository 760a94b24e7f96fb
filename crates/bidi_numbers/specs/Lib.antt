pub mod Faults
pub mod Numbers
pub mod Structs
pub mod Tables
pub mod Texts
