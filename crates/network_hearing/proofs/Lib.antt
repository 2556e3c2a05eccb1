pub mod WalkLaws
pub mod HearingLaws
