pub mod Lines
pub mod Pieces
pub mod Format
pub mod Meant
pub mod Writing
pub mod Printed
pub mod Jobs
