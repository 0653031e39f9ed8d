-- What the clauses of `site_main` rest on, and a reader has to believe: NodeNames, Numbers
pub mod NodeNames
pub mod Numbers
