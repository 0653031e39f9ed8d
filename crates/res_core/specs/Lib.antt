-- What the clauses of `site_main` rest on, and a reader has to believe: Asked, AttributeChecks, AttributeViews,
-- Catalogs, Criteria, Lines, Metaparameters, NativeTypes, TagNames
-- What functions promise one another, what types keep, and what proofs read: AskedFacts, CatalogCodes,
-- CriteriaCodes, ExportSetCodes, ExportedCodes, NamesForms, NativeRows, PlainAttributes, QueryFalls, QueryViews, RequestViews,
-- ResourceCodes, TagPlaces
pub mod Asked
pub mod AskedFacts
pub mod AttributeChecks
pub mod AttributeViews
pub mod CatalogCodes
pub mod Catalogs
pub mod Criteria
pub mod CriteriaCodes
pub mod ExportSetCodes
pub mod ExportedCodes
pub mod Lines
pub mod Metaparameters
pub mod NamesForms
pub mod NativeRows
pub mod NativeTypes
pub mod PlainAttributes
pub mod QueryFalls
pub mod QueryViews
pub mod RequestViews
pub mod ResourceCodes
pub mod TagNames
pub mod TagPlaces
