pub mod PlacementLaws
