-- What the clauses of `site_main` rest on, and a reader has to believe: PlainForms, Attributes, Layouts, Catalogs,
-- Containing, EdgeTables, RelationParameters, Sources, Relating, Exporting, Naming, Finishing
-- What functions promise one another, what types keep, and what proofs read: Tables, Titles, NameCodes, NameKeys,
-- Laws
pub mod PlainForms
pub mod Attributes
pub mod Layouts
pub mod Tables
pub mod Catalogs
pub mod Containing
pub mod EdgeTables
pub mod RelationParameters
pub mod Sources
pub mod Relating
pub mod Exporting
pub mod Naming
pub mod Titles
pub mod NameCodes
pub mod NameKeys
pub mod Finishing
pub mod Laws
