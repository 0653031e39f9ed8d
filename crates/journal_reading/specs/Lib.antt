-- What the clauses of `site_main` rest on, and a reader has to believe: Journals
-- What functions promise one another, what types keep, and what proofs read: JournalLaws, JournalLines, EntryReading,
-- SiteReading
pub mod Journals
pub mod JournalLaws
pub mod JournalLines
pub mod EntryReading
pub mod SiteReading
