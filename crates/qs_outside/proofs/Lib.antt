pub mod BlockRuns
mod HeldBlocks
mod Journals
mod Replays
