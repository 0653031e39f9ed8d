mod Finding
pub mod MeantOrders
mod ReadFiles
