pub mod Found
pub mod Page
pub mod Rows
