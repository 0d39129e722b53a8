pub mod Parts
pub mod SetPairs
pub mod AxiomsTrue
pub mod AxiomsFew
