pub mod ReadAt
