-- What a reader of the contract has to believe: CatalogDocuments
-- What functions promise one another, and what proofs read: CatalogReading, CatalogParts
pub mod CatalogDocuments
pub mod CatalogParts
pub mod CatalogReading
