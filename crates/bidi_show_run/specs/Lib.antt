pub mod Commands
pub mod Ends
pub mod Faults
pub mod Numbers
pub mod Runs
pub mod Printed
pub mod Streams
pub mod Texts
