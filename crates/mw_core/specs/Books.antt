-- Defines that a book (a tenant's open file) and a file token (the ghost capability to call it) agree: both describe one
-- file.
-- Used by: src/file_calls.rt, src/laws.rt, mw_engine.
use Rattle.std.specs.Prelude.{ℕ, ◌≡◌, ◌<◌, true, false, List, length}
use Rattle.mw_words.specs.declared.limits.TheConstants.{MAX_POOL}
use Rattle.mw_words.specs.declared.jobs.Entry.{Entry}
use Rattle.mw_words.specs.declared.statuses.Status.{Status}
use Rattle.mw_look.specs.declared.steps.Call.{Call}
use Rattle.mw_actor.specs.ActorState.{ActorState, own_entries}
use Rattle.mw_disk.specs.Facts.{Facts}
use Rattle.mw_world.specs.Files.Calls.{doubt_of, fails_on, place_for}
use Rattle.mw_world.specs.Files.State.{entries_at, file_of}
use Rattle.mw_world.specs.Definition.Calls.{Called as CallOn}
use Rattle.mw_book.specs.declared.answers.Filed.{Filed}
use Rattle.mw_book.specs.declared.answers.Filed.TheVariants.{Made, Broken, Untouched}
use Rattle.mw_book.specs.declared.book.Book.{Book}
use Rattle.mw_book.specs.declared.waiting.Waiting.{Waiting}
use Rattle.mw_book.specs.Ends.{Ends}
use Rattle.mw_book.specs.Permits.{MayCall}
use Rattle.mw_book.specs.Representation.{Represents, unopened}
use Rattle.mw_table.specs.FromRule.{FileToken, HeldFile, Starts, View, file_told, opening_at, places_held, file_token_broken, file_token_filed, file_token_opened}
use Rattle.mw_table.specs.declared.file_pass.FilePass.{FilePass}
use Rattle.mw_table.specs.declared.shared.Shared.{Shared}
use Rattle.mw_table.specs.FileCalls.{file_kept}
use Rattle.mw_table.specs.HeldFiles.{file_among}
use Rattle.mw_table.specs.Origins.{config_of, openings_of}

-- The book represents the file that the token describes. Both have so many places, and the token has the changes of
-- so many slots.
pub record Agrees {D : Type 0} (facts : D → Facts) (book : Book D) (file_token : FileToken) (places slots : ℕ) : Type 0 where
  pub shows : Represents facts book (file_told file_token)
  pub as_many : book.places ≡ places
  pub long : length file_token.places ≡ places
  pub of_slots : length file_token.place_of ≡ slots

-- The book agrees with a file token, by what a thread knows of the table and of what the latest start gave the tenant.
abbrev pub AgreesFor : {D : Type 0} → (D → Facts) → Book D → View → ℕ → FileToken → Type 0
AgreesFor facts book view tenant file_token = Agrees facts book file_token (opening_at view.openings tenant).quota view.config.pool

-- The book agrees with what is known of the first of a thread's files.
abbrev pub AgreesHeld : {D : Type 0} → (D → Facts) → Book D → View → ℕ → Type 0
AgreesHeld facts book view tenant = AgreesFor facts book view tenant (file_among view.files)

-- The book agrees with a file pass of this table.
abbrev pub AgreesThere : {D : Type 0} → (D → Facts) → Shared → Book D → FilePass → Type 0
AgreesThere facts shared book file_pass = Agrees facts book (file_kept file_pass) (opening_at (openings_of shared.table.shared.key) file_pass.tenant).quota (config_of shared.table.shared.key).pool

-- Of a call for the change of a slot, on a file of so many places.
module _ (call : Call) (file_token : FileToken) (places slot : ℕ) (entries : List Entry) where
  -- the place that the call is about
  abbrev pub place_called : ℕ
  place_called = place_for call (file_told file_token) places slot

  -- the file token after the call, by the book's answer
  abbrev pub file_token_answered : Filed → FileToken
  file_token_answered Made = file_token_filed call file_token slot (place_for call (file_told file_token) places slot) entries
  file_token_answered Broken = file_token_broken file_token (doubt_of call (entries_at (file_told file_token) (place_for call (file_told file_token) places slot)))
  file_token_answered Untouched = file_token

module _ {D : Type 0} (facts : D → Facts) where
  -- If a call starts by a file token, it may be made on a book that agrees with the token.
  abbrev pub BooksTakeCalls : Type 0
  BooksTakeCalls = (book : Book D) (old new : View) (worker slots : ℕ) (actor : ActorState) (called : CallOn) (held : HeldFile) (status : Status)
      → Agrees facts book held.file (places_held old called held) slots → called.change.slot < MAX_POOL → Starts worker actor called held status old new
      → MayCall book called.call called.change.slot (own_entries actor)

  -- A book that agreed with the file token before a call agrees after it with the token after the call, by the answer.
  abbrev pub BooksFollowFileTokens : Type 0
  BooksFollowFileTokens = (old new : Book D) (file_token : FileToken) (places slots : ℕ) (call : Call) (slot : ℕ) (entries : List Entry) (waiting : List Waiting) (result : Filed)
      → Agrees facts old file_token places slots → slot < slots → (fails_on call (file_told file_token) ≡ false → place_called call file_token places slot entries < places)
      → Ends facts call slot entries waiting (file_told file_token) old new result → new.places ≡ old.places
      → Agrees facts new (file_token_answered call file_token places slot entries result) places slots

  -- The book of a file of these words that just opened agrees with the file token for it.
  abbrev pub OpenedBooksAgree : Type 0
  OpenedBooksAgree = (book : Book D) (words : List ℕ) (tenant places slots : ℕ) → Represents facts book (file_of words) → book.places ≡ places
      → Agrees facts book (file_token_opened tenant places slots words false) places slots

  -- The book of a file that didn't open agrees with the file token for it.
  abbrev pub UnopenedBooksAgree : Type 0
  UnopenedBooksAgree = (book : Book D) (words : List ℕ) (tenant places slots : ℕ) → Represents facts book (unopened words) → book.places ≡ places
      → Agrees facts book (file_token_opened tenant places slots words true) places slots
