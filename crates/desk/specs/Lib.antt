pub mod Desk
pub mod Words
