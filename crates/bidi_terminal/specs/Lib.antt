pub mod Bases
pub mod CodePoints
pub mod Json
pub mod Names
pub mod Numbers
pub mod Uris
