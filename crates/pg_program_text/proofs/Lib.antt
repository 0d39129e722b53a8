mod Turns
mod Links
mod Levels
mod Names
mod Assigned
mod Lined
mod ExprSound
mod ExprComplete
mod PartsSound
pub mod ThreadSound
mod PartsComplete
mod LocalExpr
mod LocalParts
mod LocalThread
mod Blamed
pub mod ThreadComplete
mod Spelling
mod SpellingTrees
mod SpellingDeclared
pub mod SpellingSigns
mod SpellingExprs
pub mod SpellingLines
mod SpellingStmts
pub mod SpellingThreads
mod Again
mod Bodies
pub mod Declared
pub mod Whole
