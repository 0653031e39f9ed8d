-- What the clauses of `site_main` rest on, and a reader has to believe: DefaultStatements, OverrideStatements
pub mod DefaultStatements
pub mod OverrideStatements
