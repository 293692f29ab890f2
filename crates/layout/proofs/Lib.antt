pub mod TakeLaws
pub mod RoomLaws
pub mod AfreshLaws
pub mod ChangeLaws
pub mod ExactLaws
pub mod OtherTable
pub mod EditsLaws
