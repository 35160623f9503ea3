-- Where things lie: columns, heights, free places, and that all is inside, aligned and apart.
pub mod Aligned
pub mod ColumnShelves
pub mod FreePlaces
pub mod FreshLemmas
pub mod Heights
pub mod ItemLemmas
pub mod Tiling
pub mod Within
