pub mod NamesApart
pub mod OtherLengths
pub mod RisingNames
pub mod CatalogsBack
pub mod CatalogsRead
mod Examples
