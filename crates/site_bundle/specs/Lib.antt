-- What the clauses of `site_main` rest on, and a reader has to believe: Given, SiteView, Refusals, Documents,
-- Keeping, Files, GivenFacts, Nodes, RequestsOf, Machines, Bundles, Walks, Gathering, FolderSites
-- What functions promise one another, what types keep, and what proofs read: Listing, Templates
pub mod Given
pub mod SiteView
pub mod Listing
pub mod Refusals
pub mod Documents
pub mod Keeping
pub mod Files
pub mod GivenFacts
pub mod Nodes
pub mod RequestsOf
pub mod Machines
pub mod Bundles
pub mod Walks
pub mod Gathering
pub mod FolderSites
pub mod Templates
