pub mod TextLaws
pub mod DecimalLaws
pub mod PartLaws
pub mod LineLaws
pub mod WordLaws
pub mod ListLaws
pub mod RowsHold
