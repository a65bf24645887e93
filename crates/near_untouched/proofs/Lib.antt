pub mod AloneLaws
pub mod SameLaws
pub mod DearerLaws
pub mod OutLaws
pub mod UntouchedLaws
pub mod MarkLaws
pub mod RoomLaws
pub mod PassengerLaws
pub mod LegLaws
pub mod CountLaws
pub mod HandLaws
pub mod AgainLaws
pub mod PlaneLaws
pub mod TouchLaws
pub mod RowOutLaws
pub mod SameRowLaws
pub mod LaterLaws
mod CarriedLaws
mod SamePlanLaws
mod HourLaws
