-- Claims what holds after every run of the store alone: of its words, its slots, its quota and its replies.
-- Used by: mw_law_store, laws.rt. A change here changes these laws, which the laws of histories rest on.
use Rattle.std.specs.Prelude.{ℕ, ◌≡◌, ◌≤◌, Bool, true, List, [], ◌∷◌, ◌++◌, length, Some}
use Rattle.std.specs.Option.{option_and_then, option_to_list}
use Rattle.mw_words.specs.Change.{AreWords}
use Rattle.mw_lone.specs.declared.marks.Mark.{Mark}
use Rattle.mw_lone.specs.declared.marks.Mark.TheVariants.{Ask, Admit, Busy, Look, Miss, Seal, SealFail, FileFail, GiveUp, Retire, Reply as HandOut, Restart}
use Rattle.mw_lone.specs.Store.{Store, first_store, is_quota, step, run, outgoing, replies_from}

-- the store after a list of marks and one more is the one after that mark
abbrev pub RunExtends : Type 0
RunExtends = (s : Store) (marks : List Mark) (mark : Mark) → run s (marks ++ mark ∷ []) ≡ option_and_then (λ t. step t mark) (run s marks)

-- the replies of a list of marks and one more are those of the list, and then the one that this mark hands out
abbrev pub RepliesExtend : Type 0
RepliesExtend = (s t : Store) (marks : List Mark) (mark : Mark) → run s marks ≡ Some t → replies_from s (marks ++ mark ∷ []) ≡ replies_from s marks ++ option_to_list (outgoing t mark)

-- In every store that a run leads to, the words are words, and as many as at first.
abbrev pub WordsStayWords : Type 0
WordsStayWords = (words : List ℕ) (quota : ℕ) (faulted : Bool) (marks : List Mark) (t : Store) → AreWords words → run (first_store words quota faulted) marks ≡ Some t → AreWords t.words × (length t.words ≡ length words)

-- Every store that a run leads to uses at most as many slots as its quota.
abbrev pub UsedStaysWithin : Type 0
UsedStaysWithin = (words : List ℕ) (quota : ℕ) (faulted : Bool) (marks : List Mark) (t : Store) → run (first_store words quota faulted) marks ≡ Some t → t.used ≤ t.quota

-- the quota after a mark: a start gives it, and no other mark changes it
abbrev pub quota_by : ℕ → Mark → ℕ
quota_by quota (Restart interrupted take opened told) = told
quota_by quota (Ask n job) = quota
quota_by quota (Admit n) = quota
quota_by quota (Busy n) = quota
quota_by quota (Look n) = quota
quota_by quota (Miss n i) = quota
quota_by quota (Seal n) = quota
quota_by quota (SealFail n) = quota
quota_by quota FileFail = quota
quota_by quota (GiveUp n) = quota
quota_by quota (Retire n) = quota
quota_by quota (HandOut n) = quota

-- the quota after a list of marks: the one that the last start among them gave, else the first one
abbrev pub quota_after : ℕ → List Mark → ℕ
quota_after quota [] = quota
quota_after quota (mark ∷ marks) = quota_after (quota_by quota mark) marks

-- In every store that a run leads to, the quota is the one that the last start gave, else the first one. It is one that
-- a tenant may have, if the first is.
abbrev pub QuotasAreOfStarts : Type 0
QuotasAreOfStarts = (words : List ℕ) (quota : ℕ) (faulted : Bool) (marks : List Mark) (t : Store) → run (first_store words quota faulted) marks ≡ Some t
    → (t.quota ≡ quota_after quota marks) × (is_quota quota ≡ true → is_quota t.quota ≡ true)
