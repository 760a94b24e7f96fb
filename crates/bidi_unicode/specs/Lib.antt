pub mod Rows
pub mod Unicode
