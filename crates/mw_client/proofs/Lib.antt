pub mod Widths
pub mod Printed
pub mod ReplyTexts
pub mod RequestLineLaws
pub mod Retries
