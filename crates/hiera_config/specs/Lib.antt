-- What the clauses of `site_main` rest on, and a reader has to believe: Meant, Cuts, Pieces, Config, Variables,
-- Documents, Sources
-- What functions promise one another, what types keep, and what proofs read: FormView, Written, Seen, SoundData,
-- FileOptions, Keeping, Found, Flags, Planning, Sound, Literals, Reached, ReachedFiles, OptionTables, Laws
pub mod Meant
pub mod Cuts
pub mod Pieces
pub mod Config
pub mod Variables
pub mod Documents
pub mod Sources
pub mod FormView
pub mod Written
pub mod Seen
pub mod SoundData
pub mod FileOptions
pub mod Keeping
pub mod Found
pub mod Flags
pub mod Planning
pub mod Sound
pub mod Literals
pub mod Reached
pub mod ReachedFiles
pub mod OptionTables
pub mod Laws
