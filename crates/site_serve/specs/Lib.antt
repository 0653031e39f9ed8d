-- What the clauses of `site_main` rest on, and a reader has to believe: Endpoints, Requests, Replies, Ends
-- What functions promise one another, what types keep, and what proofs read: Steps
pub mod Endpoints
pub mod Requests
pub mod Replies
pub mod Ends
pub mod Steps
