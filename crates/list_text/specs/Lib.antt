pub mod Listing
pub mod Rows
pub mod Writing
