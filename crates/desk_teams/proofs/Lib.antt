pub mod TrailLaws
pub mod TeamLaws
pub mod RoomLaws
pub mod VoteLaws
