pub mod ReadHeads
pub mod Widths
mod ExchangeLaws
mod PageTexts
mod Prefixes
mod Receipts
