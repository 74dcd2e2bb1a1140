pub mod ListenerCallLaws
mod Chosen
