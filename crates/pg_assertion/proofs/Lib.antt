pub mod LayoutNumbers
pub mod LayoutPlaces
pub mod LayoutLists
pub mod LayoutOrder
pub mod ExpansionChoices
pub mod ExpansionSizes
pub mod ExpansionTerms
pub mod StepNumbers
