pub mod FirstBits
pub mod MadeSteps
pub mod BitsMatchLaws
