pub mod Records
pub mod Examples
pub mod Order
pub mod Cells
pub mod LoopLaws
pub mod Moves
pub mod Edits
pub mod Whole
