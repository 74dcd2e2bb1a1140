pub mod Permitted
