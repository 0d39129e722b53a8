pub mod Violation
pub mod Trace
pub mod Replay
pub mod Put
pub mod Parts
pub mod Laws
