pub mod KnownBytes
mod SyncHistories
mod UntoldRuns
