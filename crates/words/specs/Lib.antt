pub mod Changes
pub mod Decimals
pub mod Files
pub mod Outside
pub mod OutsideLaws
pub mod Registers
pub mod Texts
