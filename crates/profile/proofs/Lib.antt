pub mod Answered
pub mod AnyOrder
pub mod BookStands
pub mod Kept
pub mod Runs
pub mod Standing
pub mod Whole
