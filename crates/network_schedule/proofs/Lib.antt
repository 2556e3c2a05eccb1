pub mod ScheduleLaws
