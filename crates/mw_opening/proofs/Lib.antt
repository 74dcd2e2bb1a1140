pub mod DisksOpened
pub mod FilesFitLines
pub mod FilesRefused
pub mod ReplacedFiles
