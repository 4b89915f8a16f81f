pub mod Integers
mod Groups
mod Texts
