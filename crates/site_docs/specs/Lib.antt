-- What the clauses of `site_main` rest on, and a reader has to believe: FaultText, CatalogText, LogText, SiteText,
-- JournalText, ReplyText
-- What functions promise one another, what types keep, and what proofs read: DocumentLaws
pub mod FaultText
pub mod CatalogText
pub mod DocumentLaws
pub mod LogText
pub mod SiteText
pub mod JournalText
pub mod ReplyText
