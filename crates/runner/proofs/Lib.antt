mod Held
mod Below
mod Floats
mod Opens
mod Settled
pub mod Runs
