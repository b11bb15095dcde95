pub mod Sweepings
