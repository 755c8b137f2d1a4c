pub mod Pieces
pub mod Digits
pub mod Fields
pub mod Sheets
pub mod Readback
pub mod Spent
pub mod Played
