mod Turned
mod Made
mod Keywords
mod HeadSound
pub mod TextSound
mod HeadComplete
pub mod TextComplete
mod OneDraft
pub mod ReadyTexts
pub mod Answered
mod SpellingParts
mod SpellingLines
mod SpellingNumbers
mod SpellingNames
mod SpellingOutlines
pub mod SpellingWritable
