mod Exits
mod Chosen
mod Copies
pub mod Translating
pub mod Nesting
pub mod Visiting
pub mod Promise3
pub mod Delivered
pub mod PlainRuns
pub mod Promised
