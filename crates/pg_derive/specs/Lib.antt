pub mod Puts
pub mod Derived
pub mod Begun
pub mod SoFar
pub mod Verified
pub mod Desk
pub mod Laws
