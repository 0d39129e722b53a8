mod Texts
mod Reserved
pub mod Turns
pub mod Steps
pub mod AtomLaws
pub mod Names
pub mod Within
mod Chains
mod Levels
mod Openings
mod Appended
pub mod Outcomes
mod Begins
mod Sound
mod Stopped
pub mod Complete
pub mod Moves
mod MovesFormula
mod MovesAtoms
pub mod Reaches
mod ReachesAtoms
pub mod Blames
mod Opens
mod Swaps
mod OpensAtoms
mod Firsts
mod Limits
mod LimitsAtoms
mod Looser
pub mod Local
pub mod LocalFormula
mod FirstsAtoms
pub mod Whole
pub mod SpellingTokens
pub mod SpellingAtoms
pub mod Spelling
pub mod Again
