pub mod Entries
pub mod History
pub mod Law
pub mod Reading
pub mod Sound
pub mod Steps
