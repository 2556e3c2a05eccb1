pub mod EpochLaws
