pub mod Blocks
pub mod Cells
pub mod Explained
pub mod Pages
pub mod Rows
pub mod Stages
pub mod Tables
