-- An example: in a history of one word, a refusal is legal at a place that was reserved for it, and illegal at the end.
-- Used by: src/late_laws.rt.
use Rattle.std.specs.Prelude.{ℕ, ◌≡◌, List, [], ◌∷◌, slice_set, Option, Some, None}
use Rattle.std.specs.Option.{option_and_then, option_map}
use Rattle.mw_words.specs.declared.jobs.Job.{Job}
use Rattle.mw_words.specs.declared.jobs.Job.TheVariants.{Cas}
use Rattle.mw_words.specs.declared.replies.Reply.{Reply}
use Rattle.mw_words.specs.declared.replies.Reply.TheVariants.{No}
use Rattle.mw_lone.specs.declared.marks.Mark.{Mark}
use Rattle.mw_lone.specs.declared.marks.Mark.TheVariants.{Ask, Admit, Miss, Seal}
use Rattle.mw_lone.specs.Store.{Store, new_store, request, run}
use Rattle.mw_law_store.specs.Late.LateMarks.{marks_in, more, IsReservedFor}

-- a change of the only word
abbrev pub change : ℕ → ℕ → Job
change expected new = Cas (record { items = record { addr = 0; expected = expected; new = new } ∷ [] })

-- a store whose only word is 5, with a quota of two
abbrev pub five : Store
five = new_store (5 ∷ []) 2

-- Request 0, a change from 7 to 9, is admitted. Then a place is reserved. Then request 1 changes the word from 5 to 7.
abbrev pub lines : List (Option Mark)
lines = Some (Ask 0 (change 7 9)) ∷ Some (Admit 0) ∷ None ∷ Some (Ask 1 (change 5 7)) ∷ Some (Admit 1) ∷ Some (Seal 1) ∷ []

-- the mark that refuses request 0 at its only entry
abbrev pub refusal : Option Mark
refusal = Some (Miss 0 0)

-- the store after these lines
abbrev pub after : List (Option Mark) → Option Store
after now = run five (marks_in now)

-- the reply to request 0 after these lines
abbrev pub reply_after : List (Option Mark) → Option Reply
reply_after now = option_and_then (λ s. option_and_then (λ r. r.placed) (request s 0)) (after now)

-- the words after these lines
abbrev pub words_after : List (Option Mark) → Option (List ℕ)
words_after now = option_map (λ s. s.words) (after now)

-- The word is 5 at the place and 7 at the end. At the end the change can't be refused any more; at the place it can.
pub record LateMarkComesOut : Type 0 where
  pub kept : IsReservedFor five lines 2 (Miss 0 0) 0 (No 0 5)
  pub words : words_after lines ≡ Some (7 ∷ [])
  pub at_the_end : after (more lines refusal) ≡ None
  pub late_words : words_after (slice_set lines 2 refusal) ≡ Some (7 ∷ [])
  pub late_reply : reply_after (slice_set lines 2 refusal) ≡ Some (No 0 5)
