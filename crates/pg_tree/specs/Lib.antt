pub mod Valid
pub mod Fault
pub mod Path
pub mod Checking
pub mod Laws
