-- What the clauses of `site_main` rest on, and a reader has to believe: ValueForm, FromData, Forms
pub mod ValueForm
pub mod FromData
pub mod Forms
