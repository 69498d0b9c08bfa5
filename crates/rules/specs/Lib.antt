-- In the order to read them; `Inner` is about private functions. `abbrev` and `unfoldable` only say where the checker may see through a definition.
pub mod Syntax
pub mod Written
pub mod Reading
pub mod Calls
pub mod Settings
pub mod Accept
pub mod WellFormed
pub mod Verdict
pub mod Lists
pub mod Earlier
pub mod Inner
