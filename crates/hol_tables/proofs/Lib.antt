pub mod BuildingLemmas
