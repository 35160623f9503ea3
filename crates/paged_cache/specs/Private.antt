-- That an atlas and pages keep the laws of what allocates sizes; no public clause cites it.
pub mod AtlasLaws
pub mod PagesLaws
pub mod Tying
