-- What the clauses of `site_main` rest on, and a reader has to believe: Chains, Before, Orders, Cycles, Graphs,
-- CatalogPairs, FirstCycles
-- What functions promise one another, what types keep, and what proofs read: Pairs, Marks, Releases, Steps, Visits,
-- Ways, Distances, Listing, Stops, Spans, Laws
pub mod Chains
pub mod Before
pub mod Orders
pub mod Cycles
pub mod Pairs
pub mod Marks
pub mod Releases
pub mod Steps
pub mod Visits
pub mod Ways
pub mod Distances
pub mod Listing
pub mod Stops
pub mod Graphs
pub mod CatalogPairs
pub mod FirstCycles
pub mod Spans
pub mod Laws
