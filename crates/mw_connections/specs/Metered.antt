-- Defines what a listener that counts its connections gives, by what the listener below gives.
-- Used by: src/metered.rt. It may change with that file.
use Rattle.std.specs.Prelude.{Result, Ok, Err}
use Rattle.mw_session.specs.declared.session.Ended.{Ended}
use Rattle.mw_session.specs.declared.session.Ended.TheVariants as ended
use Rattle.mw_metrics.specs.declared.kinds.CloseReason.{CloseReason}
use Rattle.mw_metrics.specs.declared.kinds.CloseReason.TheVariants as close

-- the same outcome with what is inside the value
abbrev pub inside : {A B E : Type 0} → (A → B) → Result A E → Result B E
inside inner (Ok value) = Ok (inner value)
inside inner (Err fault) = Err fault

-- why a connection is closed whose session ended so
abbrev pub reason_of : Ended → CloseReason
reason_of ended.Quit = close.Quit
reason_of ended.PeerEnd = close.PeerEnd
reason_of ended.TooLong = close.TooLong
reason_of ended.ReadFault = close.ReadFault
reason_of (ended.WriteFault written) = close.WriteFault
reason_of ended.Memory = close.Memory
