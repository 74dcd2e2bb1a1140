pub mod Copies
pub mod MadeOfOpened
pub mod ScriptSession
pub mod Promised
pub mod FromBelow
