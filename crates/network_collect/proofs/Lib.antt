pub mod CollectLaws
