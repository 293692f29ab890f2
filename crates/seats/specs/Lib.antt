pub mod Seat
pub mod SeatExamples
pub mod SeatLaws
pub mod UntouchedLaws
pub mod StackLaws
pub mod SeatCode
pub mod LayoutLaws
pub mod MaskLaws
