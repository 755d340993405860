pub mod Edits
pub mod Slots
pub mod Tables
