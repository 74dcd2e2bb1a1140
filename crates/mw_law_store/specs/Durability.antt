-- Defines durability of a store alone (the reference model of one tenant): its words are the first ones with changes put over
-- them, and each change that was answered YES is among these.
-- Used by: src/laws.rt, mw_rule, mw_simulator.
use Rattle.std.specs.Prelude.{ℕ, ◌≡◌, ◌&&◌, not, Bool, true, false, List, [], ◌∷◌, ◌++◌, slice_get, Some, if◌then◌else◌}
use Rattle.mw_words.specs.declared.jobs.Entry.{Entry}
use Rattle.mw_words.specs.declared.jobs.Job.{Job}
use Rattle.mw_words.specs.declared.replies.Reply.TheVariants.{Yes as SaysYes}
use Rattle.mw_words.specs.Change.{put}
use Rattle.mw_lone.specs.declared.marks.Mark.{Mark}
use Rattle.mw_lone.specs.declared.marks.Mark.TheVariants.{Ask, Seal, Reply as HandOut, Restart}
use Rattle.mw_lone.specs.Store.{Store, new_store, store_after_start, entries_of, run as run_of_store, replies_from}
use Rattle.mw_law_store.specs.AbstractStates.{AbstractState, first_abstract_state, doubt_at, after_mark}

-- The changes that a mark puts over the words: a seal puts its request's, and a start the one in doubt if it finds it.
abbrev pub change_of : AbstractState → Mark → List (List Entry)
change_of now (Seal n) = now.entries n ∷ []
change_of now (Restart interrupted found opened quota) = if found then doubt_at now interrupted ∷ [] else []
change_of now mark = []

-- the changes of these marks, in their order
abbrev pub changes_of : AbstractState → List Mark → List (List Entry)
changes_of now [] = []
changes_of now (mark ∷ marks) = change_of now mark ++ changes_of (after_mark now mark) marks

-- the words with these changes put over them, one after the other
abbrev pub put_all : List ℕ → List (List Entry) → List ℕ
put_all words [] = words
put_all words (change ∷ changes) = put_all (put words change) changes

-- the mark is a start
abbrev pub is_start : Mark → Bool
is_start (Restart interrupted found opened quota) = true
is_start mark = false

-- no start is among these marks
abbrev pub no_start : List Mark → Bool
no_start [] = true
no_start (mark ∷ marks) = not (is_start mark) && no_start marks

-- The change of a request is durable among these marks: the request came for a job, was sealed, and then its reply was handed
-- out, with no start in between. The entries that it asks for are one of the changes that are put over the words, right after the
-- changes of all marks before its seal.
pub record IsDurableIn (words : List ℕ) (marks : List Mark) (n : ℕ) : Type 0 where
  pub job : Job
  pub first : List Mark
  pub until_seal : List Mark
  pub until_reply : List Mark
  pub rest : List Mark
  pub parted : marks ≡ first ++ Ask n job ∷ (until_seal ++ Seal n ∷ (until_reply ++ HandOut n ∷ rest))
  pub goes_on : no_start until_seal ≡ true
  pub stays_up : no_start until_reply ≡ true
  pub later : List (List Entry)
  pub its_change : changes_of (first_abstract_state words) marks ≡ changes_of (first_abstract_state words) (first ++ Ask n job ∷ until_seal) ++ entries_of job ∷ later

-- a store that begins with these words and this quota, of which nothing was asked, and whose file opened or didn't; later starts
-- may give other quotas
abbrev pub begun : List ℕ → ℕ → Bool → Store
begun words quota opened = store_after_start (new_store words quota) words opened quota

-- After every legal run of such a store, its words are the first ones with all changes put over them, and each YES that was
-- handed out is durable.
abbrev pub SealsAreDurable : Type 0
SealsAreDurable = (words : List ℕ) (quota : ℕ) (opened : Bool) (marks : List Mark) (t : Store) → run_of_store (begun words quota opened) marks ≡ Some t
    → (t.words ≡ put_all words (changes_of (first_abstract_state words) marks))
    × ((place n : ℕ) → slice_get (replies_from (begun words quota opened) marks) place ≡ Some (n, SaysYes) → IsDurableIn words marks n)
