-- What the clauses of `site_main` rest on, and a reader has to believe: Events, Stream, Net, Folders, Transfer
-- What functions promise one another, what types keep, and what proofs read: Got, Took, Scripted, Adapter, Sure,
-- ScriptedNet, ScriptedFolder, SystemFolders
pub mod Events
pub mod Stream
pub mod Got
pub mod Took
pub mod Scripted
pub mod Adapter
pub mod Sure
pub mod Net
pub mod ScriptedNet
pub mod Folders
pub mod ScriptedFolder
pub mod SystemFolders
pub mod Transfer
