-- What the clauses of `site_main` rest on, and a reader has to believe: References, Kinds, Sort, SortText, PTypes,
-- Words, Datum, Keys, Rising, Facts, Settings, Faults, Answers, Plain, Equal, Order, TextOf, Members
-- What functions promise one another, what types keep, and what proofs read: TextForms, SortCodes, SortFalls, Codes,
-- Depth, Sizes, Places, Views, Falls, PairLists
pub mod TextForms
pub mod References
pub mod Kinds
pub mod Sort
pub mod SortCodes
pub mod SortFalls
pub mod SortText
pub mod PTypes
pub mod Words
pub mod Datum
pub mod Codes
pub mod Depth
pub mod Sizes
pub mod Keys
pub mod Rising
pub mod Facts
pub mod Settings
pub mod Places
pub mod Views
pub mod Faults
pub mod Answers
pub mod Falls
pub mod Plain
pub mod PairLists
pub mod Equal
pub mod Order
pub mod TextOf
pub mod Members
