pub mod OldFiles
