-- Bytes from before or after a change are a file of the words before it, or with it. Used by: mw_book, mw_world_file,
-- mw_simulator.
use Rattle.std.proofs.Common.{ℕ, List, Some, sym, ap, ◌∙◌, inl, inr}
use Rattle.mw_words.specs.declared.jobs.Entry.{Entry}
use Rattle.mw_record.specs.Layout.{pairs_of}
use Rattle.mw_record.proofs.ReadAgain.{put-put_pairs}
use Rattle.mw_file.specs.RecoveryInvariant.{IsBeforeOrAfter}
use Rattle.mw_world.specs.Files.Crashes.{IsFileOfEither}

-- bytes from before or after the change are a file of either words
pub of_either : (places : ℕ) (words : List ℕ) (change : List Entry) (image : List ℕ) → IsBeforeOrAfter places words (pairs_of change) image → IsFileOfEither words change image
of_either places words change image (inl is) = inl is.words_are
of_either places words change image (inr is) = inr (is.words_are ∙ ap Some (sym (put-put_pairs change words)))
