-- Proves the law `starts_find_words`.
use Rattle.mw_law_store.proofs.Files.CallsCanBeMade.{starts_find_words}
use Rattle.mw_law_store.proofs.file_laws.starts_find_words.Goals as goal

pub returns : goal.returns
returns c = starts_find_words
