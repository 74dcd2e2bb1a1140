-- Defines one exchange with a client: what was read, what the pages were asked for, and what was written.
-- Used by: receiving.rt, writing.rt, exchanges.rt, mw_connections, mw_server_pages. A change here changes how HTTP clients are
-- answered, and docs/HTTP with it.
use Rattle.std.specs.Prelude.{◌≡◌, ℕ, ◌==◌, ◌++◌, ◌<◌, Bool, true, false, List, [], ◌∷◌, length, Option, None, Some, Result, Ok, Err, if◌then◌else◌}
use Rattle.mw_session.specs.StreamRecords.{ReadRecord, WriteRecord, with_end, with_read, with_read_fault, with_write_fault, with_written}
use Rattle.mw_http.specs.declared.hearing.Heard.{Heard}
use Rattle.mw_http.specs.declared.hearing.Heard.TheVariants as Hear
use Rattle.mw_http.specs.declared.status.Status.{Status}
use Rattle.mw_http.specs.declared.status.Status.TheVariants.{RequestTimeout}
use Rattle.mw_http.specs.Heads.{head}
use Rattle.mw_http.specs.Hearing.{Hears, MayBecomeHead, NeedMore}
use Rattle.mw_http.specs.Targets.{Place, place_of}
use Rattle.mw_http.specs.declared.exchanges.Exchanged.{Exchanged}
use Rattle.mw_http.specs.declared.exchanges.Exchanged.TheVariants as exchange
use Rattle.mw_http.specs.declared.pages.Page.{Page}
use Rattle.mw_http.specs.declared.receiving.Came.{Came}
use Rattle.mw_http.specs.declared.receiving.Came.TheVariants.{Asked, Refused, Late, Ended, Failed}
use Rattle.mw_http.specs.Calls.{Call, Dates, Shows}

-- So many bytes were read and put after those so far; none only if the stream was found at its end.
pub record TakesBytes (reads new_reads : ReadRecord) (before after : List ℕ) (count : ℕ) : Type 0 where
  pub bytes : List ℕ
  pub number : length bytes ≡ count
  pub read : new_reads ≡ (if count == 0 then with_end reads else with_read reads bytes)
  pub put : after ≡ before ++ bytes

-- how one read ended
abbrev pub TakesPiece : {E : Type 0} → ReadRecord → ReadRecord → List ℕ → List ℕ → Result ℕ E → Type 0
TakesPiece reads new_reads before after (Ok count) = TakesBytes reads new_reads before after count
TakesPiece reads new_reads before after (Err fault) = new_reads ≡ with_read_fault reads

-- These bytes were read, and hold what came to a server with these names: a request, or what is refused; or no whole head, and then the stream was found at
-- its end, or one read failed.
abbrev pub Holds : List (List ℕ) → ReadRecord → ReadRecord → List ℕ → Came → Type 0
Holds names reads new_reads bytes (Asked request) = (new_reads ≡ with_read reads bytes) × Hears names bytes (Hear.Asked request)
Holds names reads new_reads bytes (Refused status) = (new_reads ≡ with_read reads bytes) × Hears names bytes (Hear.Refused status)
Holds names reads new_reads bytes Late = (new_reads ≡ with_read_fault (with_read reads bytes)) × NeedMore bytes
Holds names reads new_reads bytes Ended = (new_reads ≡ with_end (with_read reads bytes)) × NeedMore bytes
Holds names reads new_reads bytes Failed = (new_reads ≡ with_read_fault (with_read reads bytes)) × NeedMore bytes

-- some bytes were read, and hold what came
pub record IsReceived (names : List (List ℕ)) (reads new_reads : ReadRecord) (came : Came) : Type 0 where
  pub bytes : List ℕ
  pub holds : Holds names reads new_reads bytes came

-- what came, by what was heard, if there is a whole head or none can come
abbrev pub came_of : Heard → Option Came
came_of Hear.More = None
came_of (Hear.Asked request) = Some (Asked request)
came_of (Hear.Refused status) = Some (Refused status)

-- What one more read came to, of a stream whose reads gave `before` since they stood at `reads`: there is no whole head yet, and they gave more, or this came.
abbrev pub ComesTo : List (List ℕ) → ReadRecord → ReadRecord → List ℕ → List ℕ → Option Came → Type 0
ComesTo names reads new_reads before after None = (length before < length after) × (new_reads ≡ with_read reads after) × MayBecomeHead after
ComesTo names reads new_reads before after (Some came) = IsReceived names reads new_reads came

-- A first part of a text was written, and this rest was not; then a write failed or took nothing.
pub record Breaks (writes new_writes : WriteRecord) (text : List ℕ) : Type 0 where
  pub sent : List ℕ
  pub unsent : List ℕ
  pub whole : text ≡ sent ++ unsent
  pub some : 0 < length unsent
  pub written : new_writes ≡ with_write_fault (with_written writes sent)

-- whether a text was written whole
abbrev pub Writes : WriteRecord → WriteRecord → List ℕ → Bool → Type 0
Writes writes new_writes text true = new_writes ≡ with_written writes text
Writes writes new_writes text false = Breaks writes new_writes text

-- how the exchange ended, if this was to be written
abbrev pub Sends : WriteRecord → WriteRecord → List ℕ → Exchanged → Type 0
Sends writes new_writes text exchange.Answered = Writes writes new_writes text true
Sends writes new_writes text exchange.WriteFault = Writes writes new_writes text false
Sends writes new_writes text exchange.Unanswered = ⊥

-- the bytes of an answer by a page: a head that tells its type and length, and its body if that is asked for
abbrev pub answer_text : Page → Bool → List ℕ → List ℕ
answer_text page content date =
    head page.status date (Some (record { kind = page.kind; length = length page.body.items })) ++ (if content then page.body.items else [])

-- The pages were asked once for what is asked for, and once for the date, and the answer was written from both.
pub record Answers (place : Place) (content : Bool) (writes new_writes : WriteRecord) (Asks : List Call → Type 0) (ended : Exchanged) : Type 0 where
  pub page : Page
  pub date : List ℕ
  pub asked : Asks (Shows place page ∷ Dates date ∷ [])
  pub sends : Sends writes new_writes (answer_text page content date) ended

-- The pages were asked for the date alone, and an answer with this status and no body was written.
pub record Refuses (status : Status) (writes new_writes : WriteRecord) (Asks : List Call → Type 0) (ended : Exchanged) : Type 0 where
  pub date : List ℕ
  pub asked : Asks (Dates date ∷ [])
  pub sends : Sends writes new_writes (head status date None) ended

-- The pages were asked for nothing, and nothing was written.
pub record IsSilent (writes new_writes : WriteRecord) (Asks : List Call → Type 0) (ended : Exchanged) : Type 0 where
  pub asked : Asks []
  pub written : new_writes ≡ writes
  pub unanswered : ended ≡ exchange.Unanswered

-- what was done when this came
abbrev pub Does : Came → WriteRecord → WriteRecord → (List Call → Type 0) → Exchanged → Type 0
Does (Asked request) writes new_writes Asks ended = Answers (place_of request.route) request.content writes new_writes Asks ended
Does (Refused status) writes new_writes Asks ended = Refuses status writes new_writes Asks ended
Does Late writes new_writes Asks ended = Refuses RequestTimeout writes new_writes Asks ended
Does Ended writes new_writes Asks ended = IsSilent writes new_writes Asks ended
Does Failed writes new_writes Asks ended = IsSilent writes new_writes Asks ended

-- One exchange of a server with these names: what came, and what was done. `Asks` says that these calls led the pages from their state before to the one after.
pub record IsExchange (names : List (List ℕ)) (reads new_reads : ReadRecord) (writes new_writes : WriteRecord) (Asks : List Call → Type 0) (ended : Exchanged) : Type 0 where
  pub came : Came
  pub received : IsReceived names reads new_reads came
  pub done : Does came writes new_writes Asks ended
