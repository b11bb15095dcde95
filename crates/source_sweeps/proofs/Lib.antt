pub mod SweepsMade
