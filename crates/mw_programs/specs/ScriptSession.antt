-- Defines what a console did with a script: it had a worker serve one session, which read a beginning of the script, and
-- printed its replies. Defines also when a server has run a script.
-- Used by: console.rt, scripts.rt, serving.rt. A change here changes what is promised of a script: change docs/PROMISES and docs/JOINTS with it.
use Rattle.std.specs.Prelude.{◌≡◌, ℕ, List, Option}
use Rattle.std.specs.Io.KnownBytes.{Appends, Consumes, IsAtEnd}
use Rattle.mw_session.specs.StreamRecords.{ReadRecord, WriteRecord, no_reads, no_writes}
use Rattle.mw_session.specs.declared.session.Ended.{Ended}
use Rattle.mw_session.specs.declared.session.Ended.TheVariants.{Memory, PeerEnd, Quit, ReadFault, TooLong, WriteFault}
use Rattle.mw_engine.specs.Brand.{Identity}
use Rattle.mw_engine.specs.Passes.{IsNew, IsPassOf}
use Rattle.mw_service.specs.EngineAnswers.{Pass}
use Rattle.mw_service.specs.Served.{IsSession}

-- One whole session of the engine of this identity led a worker's pass from `old` to `new`, and ended so. Its stream had recorded
-- nothing before. Where it is known what the script had to give, the session read a beginning of it, and all of it if it ended because
-- no more came. Where it is known what the console had printed, it has now printed what the session wrote too, and nothing else.
pub record IsOfScript (script printed now_printed : Option (List ℕ)) (identity : Identity) (old new : Pass) (ended : Ended) : Type 0 where
  -- the pass is the engine's
  pub own : IsPassOf identity old
  -- what the session's stream had recorded at its end
  pub reads : ReadRecord
  pub writes : WriteRecord
  pub session : IsSession identity no_reads reads no_writes writes old new ended
  -- what the script had left to give then
  pub left : Option (List ℕ)
  pub is_read : Consumes script left reads.bytes
  pub at_end : ended ≡ PeerEnd → IsAtEnd left
  pub is_printed : Appends printed now_printed writes.bytes

-- a session that ended by `QUIT`, with the script, or at a line that was too long
abbrev pub EndedWell : Ended → Type 0
EndedWell Quit = Unit {0}
EndedWell PeerEnd = Unit {0}
EndedWell TooLong = Unit {0}
EndedWell ReadFault = ⊥
EndedWell (WriteFault count) = ⊥
EndedWell Memory = ⊥

-- One session of the engine of this identity, by a worker with a new pass, was of the script that was opened at this path
-- (`IsOfScript`), and ended well. `remaining` tells what a script has to give.
pub record RunsScript {S : Type 0} (is_plain : List ℕ → S → Type 0) (remaining : S → Option (List ℕ)) (path : List ℕ) (printed now_printed : Option (List ℕ)) (identity : Identity) : Type 0 where
  pub script : S
  pub opened : is_plain path script
  pub old : Pass
  pub new : Pass
  pub begins : IsNew identity old
  pub ended : Ended
  pub well : EndedWell ended
  pub session : IsOfScript (remaining script) printed now_printed identity old new ended
