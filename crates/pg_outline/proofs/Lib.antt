mod Rows
mod Numbers
mod CrashSize
pub mod Parts
pub mod Speaks
pub mod LocationLines
pub mod EraseNames
pub mod EraseStmts
pub mod EraseClauses
pub mod EraseThreads
pub mod EraseLaws
pub mod EraseGraph
