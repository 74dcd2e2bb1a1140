-- Defines what a worker answers to a session, by what its pass (its handle to the engine) knew before and after.
-- Used by: src/served.rt, src/worker.rt, mw_law_threads, mw_programs. It may change with src/served.rt and src/worker.rt.
use Rattle.std.specs.Prelude.{◌≡◌, length, map, MatchOption}
use Rattle.mw_session.specs.declared.session.Ended.{Ended}
use Rattle.mw_session.specs.Transitions.{GoesThrough}
use Rattle.mw_session.specs.StreamRecords.{ReadRecord, WriteRecord}
use Rattle.mw_session.specs.Talk.{Call, Finds, Asks, Counts}
use Rattle.mw_session.specs.WholeSessions.{Holds}
use Rattle.mw_engine.specs.LinesOfWorld.{places_told}
use Rattle.mw_engine.specs.Brand.{Identity}
use Rattle.mw_engine.specs.Figures.{HasLooked, TellAll}
use Rattle.mw_engine.specs.FromBelow.{IsOfSameWorker, Pass}
use Rattle.mw_engine.specs.History.{IsAnswered}
use Rattle.mw_engine.specs.Identity.{HasNone, IsFirst}
use Rattle.mw_engine.specs.Replies.{IsReplyTo}

-- The answer to a call of the session, by what the pass knew before and after it.
-- A search found the first tenant of that name, or no tenant has it, and the pass is unchanged.
-- A job was answered as the engine serves it (`IsAnswered`), by the pass's own worker: only this request was added, with its reply. Its position
-- in the tenant's history is right and no earlier than what the pass had seen. A reply that depends on no word has its
-- evidence. The reply is one that the job can have.
-- The figures tell what one load of each tenant's door and of each slot's gate found. The pass did nothing else.
abbrev pub Answers : Identity → Pass → Call → Pass → Type 0
Answers identity old (Finds name found) new = (new ≡ old) × MatchOption found (HasNone identity.lines (length identity.lines) name) (IsFirst identity.lines name)
Answers identity old (Asks tenant job reply) new = IsOfSameWorker old new × IsAnswered old.seat.me.0 new.seat.me.0 tenant job reply × IsReplyTo job reply
Answers identity old (Counts figures) new = HasLooked old new
    × TellAll identity.config.pool identity.config.pool identity.lines (map places_told identity.openings) figures.tenants.items figures.pool_free old.seat.me.0 new.seat.me.0

-- A worker's session, and how it ended. What was written is what its lines call for, or a prefix of it if a write
-- failed. The answers are those of calls that led from the old pass to the new one, each as `Answers` says.
abbrev pub IsSession : Identity → ReadRecord → ReadRecord → WriteRecord → WriteRecord → Pass → Pass → Ended → Type 0
IsSession identity reads new_reads writes new_writes old new ended = Holds reads new_reads writes new_writes (λ calls. GoesThrough (Answers identity) old calls new) ended
