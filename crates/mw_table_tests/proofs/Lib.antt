pub mod NewPassesOfWorlds
pub mod ReadsMayCome
pub mod ReadsStayReads
pub mod MadeWorlds
pub mod TakenPasses
